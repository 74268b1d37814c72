-- Bytes gathered one after the other.
use Rattle.std.proofs.Common.{◌≡◌, ℕ, ◌+◌, ◌*◌, ◌/◌, ◌<◌, ◌≤◌, min, List, [], ◌∷◌, ◌++◌, length, take, drop, get_or, Result, Ok, Err, OnOk, OnErr, arith, refl, sym, ap, ◌∙◌, subst, append_assoc, append-nil, length-append, take-append-drop}
use Rattle.std.specs.List.{flat_map}
use Rattle.std.proofs.lemmas.List.{take_more}
use Rattle.std.proofs.lemmas.List.Concat.{flat_map-append}
use Rattle.map_io.specs.SinkTold.{SinkTold, Delivers, CutOff}
use Rattle.map_io.proofs.SinkLaws.{Delivers-nil, Delivers-trans, Delivers-within, CutOff-within, CutOff-after, CutOff-append}
use Rattle.answer_text.specs.Pieces.{DeliversLines, CutOffInPieces, Gathers}

-- bytes that the piece has room for
pub gathers_in_piece : (o : SinkTold) (p q a : List ℕ) → q ≡ p ++ a → length q < 64 → Gathers o o p q a
gathers_in_piece o p q a is room = record { given = []; pieces = 0; delivered = Delivers-nil o; full = refl; whole = sym is; open_ = room }

pub gathers_none : (o : SinkTold) (p : List ℕ) → length p < 64 → Gathers o o p p []
gathers_none o p room = gathers_in_piece o p p [] (sym (append-nil p)) room

pub gathers_both : (o m n : SinkTold) (p q r a b : List ℕ) → Gathers o m p q a → Gathers m n q r b → Gathers o n p r (a ++ b)
gathers_both o m n p q r a b g h = record {
  given = g.given ++ h.given;
  pieces = g.pieces + h.pieces;
  delivered = Delivers-trans o m n g.given h.given g.pieces h.pieces g.delivered h.delivered;
  full = omega (arith, g.full, h.full, length-append g.given h.given);
  whole = sym (append_assoc p a b) ∙ ap (λ (z : List ℕ). z ++ b) g.whole ∙ append_assoc g.given q b ∙ ap (λ (z : List ℕ). g.given ++ z) h.whole ∙ sym (append_assoc g.given h.given r);
  open_ = h.open_;
}

-- a proper prefix of the front is one of all
pub prefix_longer : (o n : SinkTold) (a b : List ℕ) → CutOffInPieces o n a → CutOffInPieces o n (a ++ b)
prefix_longer o n a b h =
    let more : length a / 64 ≤ length (a ++ b) / 64 = omega (arith, length-append a b) in
    CutOff-within o n (a ++ b) _ _ more (CutOff-append o n a b (length a / 64) h)

pub prefix_first : (o n : SinkTold) (p a b : List ℕ) → CutOffInPieces o n (p ++ a) → CutOffInPieces o n (p ++ (a ++ b))
prefix_first o n p a b h = subst (CutOffInPieces o n) (append_assoc p a b) (prefix_longer o n (p ++ a) b h)

-- a proper prefix of what is left in the piece and of more, after what was gathered
cut_after : (o m n : SinkTold) (p q a more : List ℕ) (most : ℕ) → (g : Gathers o m p q a) → most ≤ length more / 64 → CutOff m n more most → CutOffInPieces o n (g.given ++ more)
cut_after o m n p q a more most g few h =
    let fits : g.pieces + most ≤ length (g.given ++ more) / 64 = omega (arith, g.full, few, length-append g.given more) in
    CutOff-within o n (g.given ++ more) (g.pieces + most) _ fits (CutOff-after o m n g.given more g.pieces most g.delivered h)

-- a proper prefix after what was gathered
pub prefix_second : (o m n : SinkTold) (p q a b : List ℕ) → Gathers o m p q a → CutOffInPieces m n (q ++ b) → CutOffInPieces o n (p ++ (a ++ b))
prefix_second o m n p q a b g h =
    let all : p ++ (a ++ b) ≡ g.given ++ (q ++ b) = sym (append_assoc p a b) ∙ ap (λ (z : List ℕ). z ++ b) g.whole ∙ append_assoc g.given q b in
    subst (CutOffInPieces o n) (sym all) (cut_after o m n p q a (q ++ b) (length (q ++ b) / 64) g (omega arith) h)

-- a proper prefix of two texts is one of three
pub before_last : (o n : SinkTold) (p a b c : List ℕ) → CutOffInPieces o n (p ++ (a ++ b)) → CutOffInPieces o n (p ++ ((a ++ b) ++ c))
before_last o n p a b c h = prefix_first o n p (a ++ b) c h

-- a proper prefix of some texts is one of these with further texts behind them
pub before_two : (o n : SinkTold) (p a b c : List ℕ) → CutOffInPieces o n (p ++ a) → CutOffInPieces o n (p ++ ((a ++ b) ++ c))
before_two o n p a b c h = prefix_first o n p (a ++ b) c (prefix_first o n p a b h)

pub before_three : (o n : SinkTold) (p a b c d : List ℕ) → CutOffInPieces o n (p ++ a) → CutOffInPieces o n (p ++ (((a ++ b) ++ c) ++ d))
before_three o n p a b c d h = prefix_first o n p ((a ++ b) ++ c) d (before_two o n p a b c h)

pub before_four : (o n : SinkTold) (p a b c d e : List ℕ) → CutOffInPieces o n (p ++ a) → CutOffInPieces o n (p ++ ((((a ++ b) ++ c) ++ d) ++ e))
before_four o n p a b c d e h = prefix_first o n p (((a ++ b) ++ c) ++ d) e (before_three o n p a b c d h)

pub before_five : (o n : SinkTold) (p a b c d e f : List ℕ) → CutOffInPieces o n (p ++ a) → CutOffInPieces o n (p ++ (((((a ++ b) ++ c) ++ d) ++ e) ++ f))
before_five o n p a b c d e f h = prefix_first o n p ((((a ++ b) ++ c) ++ d) ++ e) f (before_four o n p a b c d e h)

-- the piece is written last
pub gathers_end : (o m n : SinkTold) (p q a : List ℕ) → Gathers o m p q a → Delivers m n q (min 1 (length q)) → DeliversLines o n (p ++ a) 1
gathers_end o m n p q a g h =
    let few : g.pieces + min 1 (length q) ≤ (length (g.given ++ q) + 63 * 1) / 64 = omega (arith, g.full, length-append g.given q) in
    subst (λ (z : List ℕ). DeliversLines o n z 1) (sym g.whole)
    (Delivers-within o n (g.given ++ q) _ _ few (Delivers-trans o m n g.given q g.pieces (min 1 (length q)) g.delivered h))

pub prefix_end : (o m n : SinkTold) (p q a : List ℕ) → Gathers o m p q a → CutOff m n q 0 → CutOffInPieces o n (p ++ a)
prefix_end o m n p q a g h = subst (CutOffInPieces o n) (sym g.whole) (cut_after o m n p q a q 0 g (omega arith) h)

-- the piece, filled up by the front of the bytes, wasn't written whole
pub cut_in_piece : (o n : SinkTold) (p a q : List ℕ) (room : ℕ) → q ≡ p ++ take room a → CutOff o n q 0 → CutOffInPieces o n (p ++ a)
cut_in_piece o n p a q room is h =
    let all : q ++ drop room a ≡ p ++ a = ap (λ (z : List ℕ). z ++ drop room a) is ∙ append_assoc p (take room a) (drop room a) ∙ ap (λ (z : List ℕ). p ++ z) (take-append-drop room a) in
    CutOff-within o n (p ++ a) 0 _ (omega arith) (subst (λ (z : List ℕ). CutOff o n z 0) all (CutOff-append o n q (drop room a) 0 h))

-- ---- lists

pub more_texts : {A : Type 0} (f : A → List ℕ) (xs : List A) (i : ℕ) (d : A) → i < length xs → flat_map f (take (i + 1) xs) ≡ flat_map f (take i xs) ++ f (get_or xs i d)
more_texts f xs i d inside =
    ap (flat_map f) (take_more xs i d inside) ∙ flat_map-append f (take i xs) (get_or xs i d ∷ [])
    ∙ ap (λ (z : List ℕ). flat_map f (take i xs) ++ z) (append-nil (f (get_or xs i d)))

-- one more element's text
pub gathers_more : {A : Type 0} (o m n : SinkTold) (p q r : List ℕ) (f : A → List ℕ) (xs : List A) (i : ℕ) (d : A) → i < length xs → Gathers o m p q (flat_map f (take i xs)) → Gathers m n q r (f (get_or xs i d)) → Gathers o n p r (flat_map f (take (i + 1) xs))
gathers_more o m n p q r f xs i d inside g h =
    subst (Gathers o n p r) (sym (more_texts f xs i d inside)) (gathers_both o m n p q r (flat_map f (take i xs)) (f (get_or xs i d)) g h)

-- a proper prefix of the texts so far is one of all of them
pub prefix_of_texts : {A : Type 0} (o n : SinkTold) (p : List ℕ) (f : A → List ℕ) (xs : List A) (i : ℕ) (d : A) → i < length xs → CutOffInPieces o n (p ++ (flat_map f (take i xs) ++ f (get_or xs i d))) → CutOffInPieces o n (p ++ flat_map f xs)
prefix_of_texts o n p f xs i d inside h =
    subst (λ (z : List ℕ). CutOffInPieces o n (p ++ z))
    (sym (flat_map-append f (take (i + 1) xs) (drop (i + 1) xs)) ∙ ap (flat_map f) (take-append-drop (i + 1) xs))
    (prefix_first o n p (flat_map f (take (i + 1) xs)) (flat_map f (drop (i + 1) xs))
    (subst (λ (z : List ℕ). CutOffInPieces o n (p ++ z)) (sym (more_texts f xs i d inside)) h))

-- ---- what a call that may fail says

pub ok_weaker : {T E : Type 0} (r : Result T E) (P Q : Type 0) → (P → Q) → OnOk r P → OnOk r Q
ok_weaker (Ok x) P Q f h = f h
ok_weaker (Err e) P Q f h = tt

pub err_weaker : {T E : Type 0} (r : Result T E) (P Q : Type 0) → (P → Q) → OnErr r P → OnErr r Q
err_weaker (Ok x) P Q f h = tt
err_weaker (Err e) P Q f h = f h

pub err_any : {T E : Type 0} (r : Result T E) (P : Type 0) → P → OnErr r P
err_any (Ok x) P h = tt
err_any (Err e) P h = h

-- ---- lines

pub lines_both : (o m n : SinkTold) (a b : List ℕ) (i j : ℕ) → DeliversLines o m a i → DeliversLines m n b j → DeliversLines o n (a ++ b) (i + j)
lines_both o m n a b i j g h =
    let few : (length a + 63 * i) / 64 + (length b + 63 * j) / 64 ≤ (length (a ++ b) + 63 * (i + j)) / 64 = omega (arith, length-append a b) in
    Delivers-within o n (a ++ b) _ _ few (Delivers-trans o m n a b _ _ g h)
