-- An item that is marked as dead, in lists of parts.
use Rattle.std.proofs.Common.{◌≡◌, ◌≢◌, ℕ, zero, suc, ◌+◌, ◌*◌, ◌==◌, ◌||◌, Bool, true, false, not, cond, if◌then◌else◌, Option, Some, None, List, [], ◌∷◌, ◌++◌, ◌∙◌, length, get_or, take, nat_lt, All, slice_get, refl, sym, ap, ap₂, subst, arith}
use Rattle.std.specs.Option.{option_map_or}
use Rattle.std.specs.List.{flat_map, items_where_true}
use Rattle.std.proofs.Math.Bool.{or-true}
use Rattle.std.proofs.lemmas.Bool.Decides.{nat_tests}
use Rattle.std.proofs.lemmas.List.{get_or_append_left, get_or-append-add, length-append}
use Rattle.std.proofs.lemmas.List.Elements.{All-cons, All-head, All-nil, All-tail, filter-append}
use Rattle.std.proofs.lemmas.List.Folds.{Any-from_list_any, list_any-append}
use Rattle.std.proofs.lemmas.Option.{get_or_from_slice_get, slice_get_within, slice_get_read}
use Rattle.query_laws.specs.Orders.{AllStampsDiffer}
use Rattle.query_laws.specs.StepLedger.{Counts, Spends}
use Rattle.query_laws.proofs.Counting.{Spends-then, Spends-within}
use Rattle.builder_trait.specs.Parts.{Contents, OwnsStamp, has_stamp, without, marked, live_of}
use Rattle.builder_trait.proofs.Marking.{fallen, items-fallen, has_stamp_none, marked-same}
use Rattle.log_levels.specs.Slots.{Slots, asked_in}
use Rattle.log_levels.specs.Level.{IsOfLevel}
use Rattle.log_levels.specs.Marking.{IsLiveIn, Lacks, AreMarkedAt, nowhere, here, later, IsMarked}
use Rattle.log_levels.proofs.Distinct.{none_same}

module _ {A : Type 0} (Q : A → Type 0) where
  pub All-first : (xs ys : List A) → All Q (xs ++ ys) → All Q xs
  All-first xs ys h = λ k d within. subst Q (get_or_append_left xs ys d k within) (h k d (omega (arith, within, length-append xs ys)))

  pub All-second : (xs ys : List A) → All Q (xs ++ ys) → All Q ys
  All-second xs ys h = λ k d within. subst Q (get_or-append-add xs ys k d) (h (length xs + k) d (omega (arith, within, length-append xs ys)))

  pub All-each : {P : Type 0} (f : P → List A) (ps : List P) → All Q (flat_map f ps) → All (λ p. All Q (f p)) ps
  All-each f [] h = All-nil (λ p. All Q (f p))
  All-each f (p ∷ ps) h = All-cons (λ q. All Q (f q)) p ps (All-first (f p) (flat_map f ps) h) (All-each f ps (All-second (f p) (flat_map f ps) h))

told_same : (a b : ℕ) → (a == b) ≡ true → a ≡ b
told_same a b e = grind (arith, nat_tests)

both_off : (a b : Bool) → (a || b) ≡ false → (a ≡ false) × (b ≡ false)
both_off true b off = absurd cc
both_off false b off = (refl, off)

module _ {Item : Type 0} (stamp : Item → ℕ) (s : ℕ) where
  pub has_stamp-append : (xs ys : List Item) → has_stamp stamp s (xs ++ ys) ≡ (has_stamp stamp s xs || has_stamp stamp s ys)
  has_stamp-append = list_any-append (λ x. stamp x == s)

  pub without-append : (xs ys : List Item) → without stamp s (xs ++ ys) ≡ without stamp s xs ++ without stamp s ys
  without-append = filter-append (λ x. not (stamp x == s))

  -- no item has the stamp
  pub without-lacking : (xs : List Item) → has_stamp stamp s xs ≡ false → without stamp s xs ≡ xs
  without-lacking [] off = refl
  without-lacking (x ∷ xs) off =
      let here = both_off (stamp x == s) (has_stamp stamp s xs) off in
      ap (λ b. cond (not b) (x ∷ without stamp s xs) (without stamp s xs)) here.0 ∙ ap (λ l. x ∷ l) (without-lacking xs here.1)

  -- no live item has it: no flag falls
  pub fallen-lacking : (xs : List Item) (flags : List Bool) → length flags ≡ length xs → has_stamp stamp s (items_where_true flags xs) ≡ false
      → fallen stamp s xs flags ≡ flags
  fallen-lacking [] [] same off = refl
  fallen-lacking [] (flag ∷ flags) same off = absurd (omega (arith, same))
  fallen-lacking (x ∷ xs) [] same off = absurd (omega (arith, same))
  fallen-lacking (x ∷ xs) (true ∷ flags) same off =
      let here = both_off (stamp x == s) (has_stamp stamp s (items_where_true flags xs)) off in
      ap₂ (λ b l. not b ∷ l) here.0 (fallen-lacking xs flags (omega (arith, same)) here.1)
  fallen-lacking (x ∷ xs) (false ∷ flags) same off = ap (λ l. false ∷ l) (fallen-lacking xs flags (omega (arith, same)) off)

  -- an item that has it
  pub stands : (xs : List Item) → has_stamp stamp s xs ≡ true → (k : ℕ) × (x : Item) × (slice_get xs k ≡ Some x) × (stamp x ≡ s)
  stands xs on =
      let at = Any-from_list_any (λ x. stamp x == s) xs on in
      (at.0, at.1, slice_get_read xs (length xs) at.0 at.1 refl at.2 (sym at.3), told_same (stamp at.1) s at.4)

-- where a live item stands among all
live_at : {Item : Type 0} (xs : List Item) (flags : List Bool) (k : ℕ) (x : Item) → slice_get (items_where_true flags xs) k ≡ Some x
    → (i : ℕ) × (slice_get xs i ≡ Some x) × (slice_get flags i ≡ Some true)
live_at xs [] k x at = absurd cc
live_at [] (flag ∷ flags) k x at = absurd cc
live_at (y ∷ xs) (true ∷ flags) zero x at = (0, at, refl)
live_at (y ∷ xs) (true ∷ flags) (suc k) x at = let rest = live_at xs flags k x at in (suc rest.0, rest.1, rest.2)
live_at (y ∷ xs) (false ∷ flags) k x at = let rest = live_at xs flags k x at in (suc rest.0, rest.1, rest.2)

-- an item that stands live has its stamp among the live ones
has_stamp-live : {Item : Type 0} (stamp : Item → ℕ) (x : Item) (xs : List Item) (flags : List Bool) (k : ℕ) → slice_get xs k ≡ Some x
    → slice_get flags k ≡ Some true → has_stamp stamp (stamp x) (items_where_true flags xs) ≡ true
has_stamp-live stamp x [] flags k there on = absurd cc
has_stamp-live stamp x (y ∷ xs) [] k there on = absurd cc
has_stamp-live stamp x (y ∷ xs) (true ∷ flags) zero there on =
    let is : y ≡ x = cc in
    let test : (stamp y == stamp x) ≡ true = ap (λ z. stamp z == stamp x) is ∙ grind (arith, nat_tests) in
    ap (λ b. b || has_stamp stamp (stamp x) (items_where_true flags xs)) test
has_stamp-live stamp x (y ∷ xs) (false ∷ flags) zero there on = absurd cc
has_stamp-live stamp x (y ∷ xs) (true ∷ flags) (suc k) there on =
    ap (λ b. (stamp y == stamp x) || b) (has_stamp-live stamp x xs flags k there on) ∙ or-true (stamp y == stamp x)
has_stamp-live stamp x (y ∷ xs) (false ∷ flags) (suc k) there on = has_stamp-live stamp x xs flags k there on

module _ {P Item : Type 0} (contents : P → Contents Item) (stamp : Item → ℕ) (s : ℕ) where
  -- what isn't live in some parts isn't live in the first of them
  pub lacking-first : (n : ℕ) (ps : List P) → has_stamp stamp s (flat_map (λ q. live_of (contents q)) ps) ≡ false
      → has_stamp stamp s (flat_map (λ q. live_of (contents q)) (take n ps)) ≡ false
  lacking-first zero ps off = refl
  lacking-first (suc n) [] off = refl
  lacking-first (suc n) (p ∷ ps) off =
      let here = both_off (has_stamp stamp s (live_of (contents p))) (has_stamp stamp s (flat_map (λ q. live_of (contents q)) ps))
      (sym (has_stamp-append stamp s (live_of (contents p)) (flat_map (λ q. live_of (contents q)) ps)) ∙ off) in
      has_stamp-append stamp s (live_of (contents p)) (flat_map (λ q. live_of (contents q)) (take n ps))
      ∙ ap₂ (λ b d. b || d) here.0 (lacking-first n ps here.1)

module _ {P Item : Type 0} (contents : P → Contents Item) (stamp : Item → ℕ) (x : Item) where
  -- the part has it, and no other one of the list
  pub others_lack : (p : P) (ps : List P) → AllStampsDiffer stamp ((contents p).items ++ flat_map (λ q. (contents q).items) ps)
      → IsLiveIn (contents p) x → All (λ q. Lacks stamp (stamp x) (contents q)) ps
  others_lack p ps apart live =
      let rest = flat_map (λ q. (contents q).items) ps in
      let differ = none_same stamp (contents p).items rest apart live.0 x live.1 in
      let each = All-each (λ y. stamp y ≢ stamp x) (λ q. (contents q).items) ps differ in
      λ k d within. has_stamp_none stamp (stamp x) (contents (get_or ps k d)).items (contents (get_or ps k d)).flags (each k d within)

  pub live_of-marked : (p p' : P) → contents p' ≡ marked stamp (stamp x) (contents p)
      → live_of (contents p') ≡ without stamp (stamp x) (live_of (contents p))
  live_of-marked p p' same = ap live_of same ∙ items-fallen stamp (stamp x) (contents p).items (contents p).flags

  lacking : (ps : List P) → All (λ q. Lacks stamp (stamp x) (contents q)) ps
      → without stamp (stamp x) (flat_map (λ q. live_of (contents q)) ps) ≡ flat_map (λ q. live_of (contents q)) ps
  lacking [] lacks = refl
  lacking (p ∷ ps) lacks =
      without-append stamp (stamp x) (live_of (contents p)) (flat_map (λ q. live_of (contents q)) ps)
      ∙ ap₂ (λ l m. l ++ m) (without-lacking stamp (stamp x) (live_of (contents p)) (All-head (λ q. Lacks stamp (stamp x) (contents q)) p ps lacks))
      (lacking ps (All-tail (λ q. Lacks stamp (stamp x) (contents q)) p ps lacks))

  pub live-marked : {place : Option ℕ} {ps ps' : List P} → AreMarkedAt contents stamp x place ps ps'
      → flat_map (λ q. live_of (contents q)) ps' ≡ without stamp (stamp x) (flat_map (λ q. live_of (contents q)) ps)
  live-marked nowhere = refl
  live-marked (here p p' ps live same lacks) =
      ap₂ (λ l m. l ++ m) (live_of-marked p p' same) (sym (lacking ps lacks))
      ∙ sym (without-append stamp (stamp x) (live_of (contents p)) (flat_map (λ q. live_of (contents q)) ps))
  live-marked (later place p p' ps ps' lacks same rest) =
      ap₂ (λ l m. l ++ m) (live_of-marked p p' same) (live-marked rest)
      ∙ sym (without-append stamp (stamp x) (live_of (contents p)) (flat_map (λ q. live_of (contents q)) ps))

  pub items-marked : {place : Option ℕ} {ps ps' : List P} → AreMarkedAt contents stamp x place ps ps'
      → flat_map (λ q. (contents q).items) ps' ≡ flat_map (λ q. (contents q).items) ps
  items-marked nowhere = refl
  items-marked (here p p' ps live same lacks) = ap (λ c. c.items ++ flat_map (λ q. (contents q).items) ps) same
  items-marked (later place p p' ps ps' lacks same rest) = ap₂ (λ c l. c.items ++ l) same (items-marked rest)

  -- whether the part in which it lives is one of the first n
  pub first-marked : {place : Option ℕ} {ps ps' : List P} → AreMarkedAt contents stamp x place ps ps' → (n : ℕ)
      → has_stamp stamp (stamp x) (flat_map (λ q. live_of (contents q)) (take n ps)) ≡ option_map_or (λ k. nat_lt k n) place false
  first-marked nowhere zero = refl
  first-marked nowhere (suc n) = refl
  first-marked (here p p' ps live same lacks) zero = refl
  first-marked (here p p' ps live same lacks) (suc n) =
      has_stamp-append stamp (stamp x) (live_of (contents p)) (flat_map (λ q. live_of (contents q)) (take n ps))
      ∙ ap (λ b. b || has_stamp stamp (stamp x) (flat_map (λ q. live_of (contents q)) (take n ps))) (has_stamp-live stamp x (contents p).items (contents p).flags live.0 live.1 live.2)
      ∙ grind (arith, nat_tests)
  first-marked (later None p p' ps ps' lacks same rest) zero = refl
  first-marked (later (Some k) p p' ps ps' lacks same rest) zero = grind (arith, nat_tests)
  first-marked (later None p p' ps ps' lacks same rest) (suc n) =
      has_stamp-append stamp (stamp x) (live_of (contents p)) (flat_map (λ q. live_of (contents q)) (take n ps))
      ∙ ap₂ (λ b d. b || d) lacks (first-marked rest n)
  first-marked (later (Some k) p p' ps ps' lacks same rest) (suc n) =
      has_stamp-append stamp (stamp x) (live_of (contents p)) (flat_map (λ q. live_of (contents q)) (take n ps))
      ∙ ap₂ (λ b d. b || d) lacks (first-marked rest n) ∙ grind (arith, nat_tests)

  pub length-marked : {place : Option ℕ} {ps ps' : List P} → AreMarkedAt contents stamp x place ps ps' → length ps' ≡ length ps
  length-marked nowhere = refl
  length-marked (here p p' ps live same lacks) = refl
  length-marked (later place p p' ps ps' lacks same rest) = ap (λ n. suc n) (length-marked rest)

  -- the level whose parts these are
  pub IsMarked-of : {place : Option ℕ} {l l' : Slots P Item} → l' ≡ record l { parts = l'.parts } → AreMarkedAt contents stamp x place l.parts l'.parts
      → IsMarked contents stamp (stamp x) l l'
  IsMarked-of same h = record { same = same; live = live-marked h; items = items-marked h; as_many = length-marked h }

  -- a part in which it isn't live is as it was
  pub unmarked : (p p' : P) → contents p' ≡ marked stamp (stamp x) (contents p) → length (contents p).flags ≡ length (contents p).items
      → Lacks stamp (stamp x) (contents p) → contents p' ≡ contents p
  unmarked p p' same flagged lacks =
      same ∙ sym (marked-same stamp (stamp x) (contents p) (fallen-lacking stamp (stamp x) (contents p).items (contents p).flags flagged lacks))

  -- the item itself lives there
  pub lives : (p : P) → OwnsStamp stamp x (contents p).items → has_stamp stamp (stamp x) (live_of (contents p)) ≡ true → IsLiveIn (contents p) x
  lives p owner on =
      let at = stands stamp (stamp x) (live_of (contents p)) on in
      let found = live_at (contents p).items (contents p).flags at.0 at.1 at.2 in
      let here : get_or (contents p).items found.0 x ≡ at.1 = get_or_from_slice_get (contents p).items found.0 at.1 x found.1 in
      let is : at.1 ≡ x = sym here ∙ owner found.0 x (slice_get_within (contents p).items found.0 at.1 found.1) (ap stamp here ∙ at.3) in
      (found.0, found.1 ∙ ap (λ y. Some y) is, found.2)

  -- the marks of one part and of the others
  pub parts_asked-here : (p : P) (ps : List P) → has_stamp stamp (stamp x) (live_of (contents p)) ≡ true → asked_in contents stamp (stamp x) (p ∷ ps) ≡ 1
  parts_asked-here p ps on = ap (λ b. 1 + (if b then 0 else asked_in contents stamp (stamp x) ps)) on

  pub parts_asked-later : (p : P) (ps : List P) → has_stamp stamp (stamp x) (live_of (contents p)) ≡ false
      → asked_in contents stamp (stamp x) (p ∷ ps) ≡ 1 + asked_in contents stamp (stamp x) ps
  parts_asked-later p ps off = ap (λ b. 1 + (if b then 0 else asked_in contents stamp (stamp x) ps)) off

  of_level : (level : ℕ) (p p' : P) → contents p' ≡ marked stamp (stamp x) (contents p) → IsOfLevel level (contents p) → IsOfLevel level (contents p')
  of_level level p p' same h = subst (IsOfLevel level) (sym same) (record { at_level = h.at_level; fits = h.fits })

  pub of_level-marked : (level : ℕ) {place : Option ℕ} {ps ps' : List P} → AreMarkedAt contents stamp x place ps ps'
      → All (λ q. IsOfLevel level (contents q)) ps → All (λ q. IsOfLevel level (contents q)) ps'
  of_level-marked level nowhere each = each
  of_level-marked level (here p p' ps live same lacks) each =
      All-cons (λ q. IsOfLevel level (contents q)) p' ps (of_level level p p' same (All-head (λ q. IsOfLevel level (contents q)) p ps each))
      (All-tail (λ q. IsOfLevel level (contents q)) p ps each)
  of_level-marked level (later place p p' ps ps' lacks same rest) each =
      All-cons (λ q. IsOfLevel level (contents q)) p' ps' (of_level level p p' same (All-head (λ q. IsOfLevel level (contents q)) p ps each))
      (of_level-marked level rest (All-tail (λ q. IsOfLevel level (contents q)) p ps each))

pub Spends-here : {old new : Counts} {t : ℕ} (n : ℕ) → Spends old new 0 1 t → n ≡ 1 → Spends old new 0 n (n * t)
Spends-here {old} {new} {t} n spent one = subst (λ m. Spends old new 0 m (m * t)) (sym one) (Spends-within spent refl refl (omega arith))

pub Spends-both : {old mid new : Counts} (t n m k : ℕ) → Spends old mid 0 n (n * t) → Spends mid new 0 m (m * t) → k ≡ n + m → Spends old new 0 k (k * t)
Spends-both {old} {mid} {new} t n m k first second sum =
    let shared : n * t + m * t ≡ (n + m) * t = grind arith in
    subst (λ j. Spends old new 0 j (j * t)) (sym sum) (Spends-within (Spends-then first second) refl refl (omega (arith, shared)))
