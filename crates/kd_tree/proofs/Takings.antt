-- What is kept of the points that are taken in.
use Rattle.std.proofs.Common.{◌≡◌, ℕ, ◌-◌, ◌<◌, ◌≤◌, Bool, true, List, [], ◌∷◌, ◌++◌, map, take, Option, Some, None, slice_get, All, refl, sym, ap, ◌∙◌, arith, subst, append-nil, append_assoc}
use Rattle.std.specs.Option.{option_to_list, option_map}
use Rattle.std.proofs.lemmas.Bool.Decides.{nat_tests}
use Rattle.std.proofs.lemmas.Grind.{common_steps}
use Rattle.std.proofs.lemmas.List.{take-map}
use Rattle.std.proofs.lemmas.Option.{slice_get_within}
use Rattle.query_laws.specs.Permuted.{Permuted}
use Rattle.query_laws.proofs.Permutations.{Permuted-append_right, Permuted-append_comm}
use Rattle.map_model.specs.Shape.{squared_distance}
use Rattle.map_model.specs.State.{Item}
use Rattle.map_model.specs.Found as model
use Rattle.map_model.specs.Found.{insert_by, sorted_by, found_le, Found}
use Rattle.map_shapes.specs.declared.point.Point.{Point}
use Rattle.map_shapes.specs.Found.{nearer_le, found_from}
use Rattle.map_shapes.specs.Point.{item_of}
use Rattle.map_questions.specs.FirstFew.{IsTotalOrder, IsFirstFew, first_few, first_few_of_both, first, first_of_both}
use Rattle.map_questions.specs.FirstFewLaws.{first_few-append_left, first_few-append_right, first_few-IsFirstFew, IsFirstFew-first_few, sorted_by-Permuted}
use Rattle.map_questions.specs.Questions.{near, near_k, found_at}
use Rattle.map_questions.specs.QuestionLaws.{IsTotalOrder-nearer_le}
use Rattle.map_questions.proofs.Offers.{first_few-all_worse}
use Rattle.kd_tree.specs.Walks.{Takes}

order : IsTotalOrder nearer_le
order = IsTotalOrder-nearer_le

pub Takes-none : (k : ℕ) (old : List Found) → IsFirstFew nearer_le k old → Takes k old [] old
Takes-none k old few = sym (ap (first_few nearer_le k) (append-nil old) ∙ first_few-IsFirstFew order k old few)

-- those that don't come before the last one, where there is no room, change nothing
pub Takes-worse : (k : ℕ) (old more : List Found) (worst : Found) → IsFirstFew nearer_le k old → slice_get old (k - 1) ≡ Some worst
    → All (λ f. nearer_le worst f ≡ true) more → Takes k old more old
Takes-worse k old more worst few at worse =
    let some : 1 ≤ k = omega (arith, slice_get_within old (k - 1) worst at, few.few) in
    sym (sym (first_few-append_right order k old more) ∙ first_few-all_worse order k old more worst few some at worse)

pub Takes-then : (k : ℕ) (old mid new first second : List Found) → Takes k old first mid → Takes k mid second new → Takes k old (first ++ second) new
Takes-then k old mid new first second taken more =
    more ∙ ap (λ l. first_few nearer_le k (l ++ second)) taken ∙ first_few-append_left order k (old ++ first) second
    ∙ ap (first_few nearer_le k) (append_assoc old first second)

pub first_few-Permuted : (k : ℕ) (old : List Found) {more others : List Found} → Permuted more others
    → first_few nearer_le k (old ++ more) ≡ first_few nearer_le k (old ++ others)
first_few-Permuted k old same = ap (take k) (sorted_by-Permuted order (Permuted-append_right old same))

pub Takes-IsFirstFew : (k : ℕ) (old more new : List Found) → Takes k old more new → IsFirstFew nearer_le k new
Takes-IsFirstFew k old more new taken = subst (IsFirstFew nearer_le k) (sym taken) (IsFirstFew-first_few order k (old ++ more))

-- some of the points are taken in, and the rest later
pub visited : (k : ℕ) (old new here rest : List Found) → Takes k old here new
    → first_few nearer_le k (new ++ rest) ≡ first_few nearer_le k (old ++ (rest ++ here))
visited k old new here rest taken =
    ap (λ l. first_few nearer_le k (l ++ rest)) taken ∙ first_few-append_left order k (old ++ here) rest
    ∙ ap (first_few nearer_le k) (append_assoc old here rest) ∙ first_few-Permuted k old (Permuted-append_comm here rest)

-- a point that is at least as far as something that is farther than the worst
pub no_nearer : (worst found : Found) (dist : ℕ) → worst.dist < dist → dist ≤ found.dist → nearer_le worst found ≡ true
no_nearer worst found dist far from = grind (arith, nat_tests)

-- ---- answers, as what is kept

module _ {A B : Type 0} (f : A → B) (le : B → B → Bool) where
  insert_by-map : (x : A) (xs : List A) → insert_by le (f x) (map f xs) ≡ map f (insert_by (λ a b. le (f a) (f b)) x xs)
  insert_by-map x [] = refl
  insert_by-map x (y ∷ ys) = grind (arith, common_steps, insert_by-map x ys)

  sorted_by-map : (xs : List A) → sorted_by le (map f xs) ≡ map f (sorted_by (λ a b. le (f a) (f b)) xs)
  sorted_by-map [] = refl
  sorted_by-map (x ∷ xs) = ap (insert_by le (f x)) (sorted_by-map xs) ∙ insert_by-map x (sorted_by (λ a b. le (f a) (f b)) xs)

front-map : {A B : Type 0} (f : A → B) (xs : List A) → slice_get (map f xs) 0 ≡ option_map f (slice_get xs 0)
front-map f [] = refl
front-map f (x ∷ xs) = refl

abbrev in_model : ℕ → ℕ → Item → model.Found
in_model x y item = record { dist = squared_distance x y item.shape; id = item.id }

found_all : (x y : ℕ) (points : List Point) → map found_from (map (in_model x y) (map item_of points)) ≡ map (found_at x y) points
found_all x y [] = refl
found_all x y (p ∷ ps) = ap (λ l. found_at x y p ∷ l) (found_all x y ps)

sorted_all : (x y : ℕ) (points : List Point)
    → map found_from (sorted_by found_le (map (in_model x y) (map item_of points))) ≡ sorted_by nearer_le (map (found_at x y) points)
sorted_all x y points =
    sym (sorted_by-map found_from nearer_le (map (in_model x y) (map item_of points))) ∙ ap (sorted_by nearer_le) (found_all x y points)

pub near_k-is : (k x y : ℕ) (points : List Point) → near_k k x y points ≡ first_few nearer_le k (map (found_at x y) points)
near_k-is k x y points =
    sym (take-map found_from k (sorted_by found_le (map (in_model x y) (map item_of points)))) ∙ ap (take k) (sorted_all x y points)

pub near-is : (x y : ℕ) (points : List Point) → near x y points ≡ first nearer_le (map (found_at x y) points)
near-is x y points =
    sym (front-map found_from (sorted_by found_le (map (in_model x y) (map item_of points)))) ∙ ap (λ l. slice_get l 0) (sorted_all x y points)

-- so the tally of the k nearest has the join
pub near_k-joined : (k x y : ℕ) (old new : List Found) (points : List Point) → Takes k old (map (found_at x y) points) new
    → new ≡ first_few_of_both nearer_le k old (near_k k x y points)
near_k-joined k x y old new points taken =
    taken ∙ sym (first_few-append_right order k old (map (found_at x y) points))
    ∙ ap (λ l. first_few nearer_le k (old ++ l)) (sym (near_k-is k x y points))

front-one : (xs : List Found) → option_to_list (slice_get xs 0) ≡ take 1 xs
front-one [] = refl
front-one (x ∷ xs) = refl

front-taken : (xs : List Found) → slice_get (take 1 xs) 0 ≡ slice_get xs 0
front-taken [] = refl
front-taken (x ∷ xs) = refl

front-listed : (a : Option Found) → slice_get (option_to_list a) 0 ≡ a
front-listed None = refl
front-listed (Some x) = refl

-- and that of the nearest one
pub near-joined : (x y : ℕ) (old new : Option Found) (points : List Point) → Takes 1 (option_to_list old) (map (found_at x y) points) (option_to_list new)
    → new ≡ first_of_both nearer_le old (near x y points)
near-joined x y old new points taken =
    let founds = map (found_at x y) points in
    let listed : option_to_list (near x y points) ≡ first_few nearer_le 1 founds = ap option_to_list (near-is x y points) ∙ front-one (sorted_by nearer_le founds) in
    sym (front-listed new) ∙ ap (λ l. slice_get l 0) taken ∙ ap (λ l. slice_get l 0) (sym (first_few-append_right order 1 (option_to_list old) founds))
    ∙ front-taken (sorted_by nearer_le (option_to_list old ++ first_few nearer_le 1 founds))
    ∙ ap (λ l. slice_get (sorted_by nearer_le (option_to_list old ++ l)) 0) (sym listed)
