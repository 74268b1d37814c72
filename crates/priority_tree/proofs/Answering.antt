-- The answers of the tree are those over the live points of a part.
use Rattle.std.proofs.Common.{◌≡◌, ℕ, suc, ◌+◌, ◌*◌, ◌^◌, ◌<◌, ◌≤◌, Bool, true, false, cond, ◌&&◌, List, [], ◌∷◌, ◌++◌, length, map, Option, Some, slice_get, refl, sym, ap, ap₂, ◌∙◌, arith, inl, inr}
use Rattle.std.specs.Prelude.{nat_le, not, IsTrue, MatchOption}
use Rattle.std.specs.List.{filter, items_where_true}
use Rattle.std.specs.Option.{option_map, unwrap_or}
use Rattle.std.proofs.lemmas.Grind.{common_steps}
use Rattle.std.proofs.lemmas.Bool.Decides.{nat_tests}
use Rattle.std.proofs.lemmas.List.{length-map}
use Rattle.query_laws.proofs.Permutations.{Permuted-filter, Permuted-map, Permuted-length}
use Rattle.builder_trait.specs.Parts.{Contents, live_of}
use Rattle.map_model.specs.Shape.{is_between, is_above, height_of}
use Rattle.map_model.specs.Found as model
use Rattle.row_blocks.specs.Heights.{IsLeastHeight-height_of, height_of as least_height}
use Rattle.map_model.specs.Found.{insert_by, sorted_by}
use Rattle.map_model.specs.State.{Item}
use Rattle.map_shapes.specs.declared.peak.Peak.{Peak}
use Rattle.map_shapes.specs.declared.point.Point.{Point}
use Rattle.map_shapes.specs.Found.{higher_le, peak_from}
use Rattle.map_shapes.specs.Point.{shape_of, item_of}
use Rattle.map_shapes.specs.Ascending.{sorted_ids, sorted_union}
use Rattle.map_shapes.specs.AscendingLaws.{sorted_ids-Permuted, sorted_ids-append, sorted_ids-sorted_by}
use Rattle.map_questions.specs.FirstFew.{first, first_of_both}
use Rattle.map_questions.specs.FirstFewLaws.{sorted_by-Permuted}
use Rattle.map_questions.specs.Questions.{peak_at, above, top}
use Rattle.map_questions.specs.QuestionLaws.{IsTotalOrder-higher_le}
use Rattle.priority_tree.specs.declared.entry.Entry.{Entry}
use Rattle.priority_tree.specs.declared.strip.Strip.{Strip}
use Rattle.priority_tree.specs.declared.heap.Heap.{Heap}
use Rattle.priority_tree.specs.Entries.{peak_of, best_of, IsAmong, IsOver}
use Rattle.priority_tree.specs.Tree.{entries_in}
use Rattle.priority_tree.specs.Live.{entry_at, live_entries, IsTree}
use Rattle.priority_tree.specs.Strips.{is_in, is_hit, ids_of, cut_at, cuts, IsStrip}
use Rattle.priority_tree.proofs.EntryLemmas.{IsAmong-Permuted}
use Rattle.priority_tree.proofs.LiveLemmas.{live_point}
use Rattle.priority_tree.proofs.Best.{joined_none, joined_all_worse}
use Rattle.priority_tree.proofs.Marking.{few_points}

-- ---- entries that pass a test are points that pass one

module _ {C : Type 0} (f : Entry → C) (g : Point → C) (test : Entry → Bool) (holds : Point → Bool) (same : (k : ℕ) (p : Point) → f (entry_at k p) ≡ g p) where
  kept_same : (b c : Bool) (k : ℕ) (p : Point) (es : List Entry) (ps : List Point) → b ≡ c → map f es ≡ map g ps
      → map f (cond b (entry_at k p ∷ es) es) ≡ map g (cond c (p ∷ ps) ps)
  kept_same b c k p es ps e rest =
      ap (λ t. map f (cond t (entry_at k p ∷ es) es)) e ∙ by c
    where
      by : (t : Bool) → map f (cond t (entry_at k p ∷ es) es) ≡ map g (cond t (p ∷ ps) ps)
      by true = ap₂ (λ x xs. x ∷ xs) (same k p) rest
      by false = rest

  tested : (k : ℕ) (flags : List Bool) (points : List Point) → ((j : ℕ) (p : Point) → slice_get points j ≡ Some p → test (entry_at (k + j) p) ≡ holds p)
      → map f (filter test (live_entries k flags points)) ≡ map g (filter holds (items_where_true flags points))
  tested k [] points each = refl
  tested k (true ∷ flags) [] each = refl
  tested k (false ∷ flags) [] each = refl
  tested k (true ∷ flags) (p ∷ points) each =
      kept_same (test (entry_at k p)) (holds p) k p (filter test (live_entries (suc k) flags points)) (filter holds (items_where_true flags points))
      (ap (λ n. test (entry_at n p)) (omega arith) ∙ each 0 p refl)
      (tested (suc k) flags points (λ j q at. ap (λ n. test (entry_at n q)) (omega arith) ∙ each (suc j) q at))
  tested k (false ∷ flags) (p ∷ points) each = tested (suc k) flags points (λ j q at. ap (λ n. test (entry_at n q)) (omega arith) ∙ each (suc j) q at)

-- ---- the point at an entry's place is from x1 to x2

abbrev pub is_from : List Point → ℕ → ℕ → Entry → Bool
is_from points x1 x2 e = unwrap_or (option_map (λ p. is_between x1 x2 (shape_of p)) (slice_get points e.place)) false

from_at : (points : List Point) (x1 x2 j : ℕ) (p : Point) → slice_get points j ≡ Some p → is_from points x1 x2 (entry_at (0 + j) p) ≡ is_between x1 x2 (shape_of p)
from_at points x1 x2 j p at =
    ap (λ n. unwrap_or (option_map (λ q. is_between x1 x2 (shape_of q)) (slice_get points n)) false) (omega arith)
    ∙ ap (λ o. unwrap_or (option_map (λ q. is_between x1 x2 (shape_of q)) o) false) at

filter_same : (f g : Entry → Bool) (es : List Entry) → ((e : Entry) → IsAmong e es → f e ≡ g e) → filter f es ≡ filter g es
filter_same f g [] each = refl
filter_same f g (e ∷ es) each =
    ap₂ (λ b l. cond b (e ∷ l) l) (each e (inl refl)) (filter_same f g es (λ x among. each x (inr among)))

module _ (part : Contents Point) (heap : Heap) (height : ℕ) (tree : IsTree part heap height) (x1 x2 : ℕ) where
  -- in a strip are the points from x1 to x2
  in_strip : (strip : Strip) → IsStrip part.items x1 x2 strip → (e : Entry) → IsAmong e (entries_in heap height 0) → is_in strip e ≡ is_from part.items x1 x2 e
  in_strip strip is e among =
      let found = live_point 0 part.flags part.items e (IsAmong-Permuted e tree.entries among) in
      is.each e.place found.0 (at found)
      ∙ ap (λ o. unwrap_or (option_map (λ q. is_between x1 x2 (shape_of q)) o) false) (sym (at found))
    where
      at : (found : (p : Point) × (j : ℕ) × (0 + j ≡ e.place) × (slice_get part.items j ≡ Some p)) → slice_get part.items e.place ≡ Some found.0
      at found = ap (slice_get part.items) (omega (arith, found.2)) ∙ found.3

  pub strip_entries : (strip : Strip) → IsStrip part.items x1 x2 strip
      → filter (is_in strip) (entries_in heap height 0) ≡ filter (is_from part.items x1 x2) (entries_in heap height 0)
  strip_entries strip is = filter_same (is_in strip) (is_from part.items x1 x2) (entries_in heap height 0) (in_strip strip is)

  pub strip_hits : (strip : Strip) (y : ℕ) → IsStrip part.items x1 x2 strip
      → filter (is_hit strip y) (entries_in heap height 0) ≡ filter (λ e. is_from part.items x1 x2 e && nat_le y e.y) (entries_in heap height 0)
  strip_hits strip y is =
      filter_same (is_hit strip y) (λ e. is_from part.items x1 x2 e && nat_le y e.y) (entries_in heap height 0) (λ e among. ap (λ b. b && nat_le y e.y) (in_strip strip is e among))

-- ---- the highest of them

module _ {A B : Type 0} (f : A → B) (le : B → B → Bool) where
  insert_by-map : (x : A) (xs : List A) → insert_by le (f x) (map f xs) ≡ map f (insert_by (λ a b. le (f a) (f b)) x xs)
  insert_by-map x [] = refl
  insert_by-map x (y ∷ ys) = grind (arith, common_steps, insert_by-map x ys)

  sorted_by-map : (xs : List A) → sorted_by le (map f xs) ≡ map f (sorted_by (λ a b. le (f a) (f b)) xs)
  sorted_by-map [] = refl
  sorted_by-map (x ∷ xs) = ap (insert_by le (f x)) (sorted_by-map xs) ∙ insert_by-map x (sorted_by (λ a b. le (f a) (f b)) xs)

  front-map : (xs : List A) → slice_get (map f xs) 0 ≡ option_map f (slice_get xs 0)
  front-map [] = refl
  front-map (x ∷ xs) = refl

  first-map : (xs : List A) → first le (map f xs) ≡ option_map f (first (λ a b. le (f a) (f b)) xs)
  first-map xs = ap (λ ys. slice_get ys 0) (sorted_by-map xs) ∙ front-map (sorted_by (λ a b. le (f a) (f b)) xs)

abbrev peak_in : Item → model.Peak
peak_in item = record { y = height_of item.shape; id = item.id }

peaks : (x1 x2 : ℕ) (points : List Point)
    → map peak_from (map peak_in (filter (λ item. is_between x1 x2 item.shape) (map item_of points))) ≡ map peak_at (filter (λ p. is_between x1 x2 (shape_of p)) points)
peaks x1 x2 [] = refl
peaks x1 x2 (p ∷ points) = grind (arith, common_steps, peaks x1 x2 points)

top_first : (x1 x2 : ℕ) (points : List Point) → top x1 x2 points ≡ first higher_le (map peak_at (filter (λ p. is_between x1 x2 (shape_of p)) points))
top_first x1 x2 points =
    sym (first-map peak_from higher_le (map peak_in (filter (λ item. is_between x1 x2 item.shape) (map item_of points)))) ∙ ap (first higher_le) (peaks x1 x2 points)

pub top_is : (part : Contents Point) (heap : Heap) (height : ℕ) → IsTree part heap height → (x1 x2 : ℕ)
    → best_of (filter (is_from part.items x1 x2) (entries_in heap height 0)) ≡ top x1 x2 (live_of part)
top_is part heap height tree x1 x2 =
    ap (λ ps. slice_get ps 0) (sorted_by-Permuted IsTotalOrder-higher_le (Permuted-map peak_of (Permuted-filter (is_from part.items x1 x2) tree.entries)))
    ∙ ap (first higher_le) (tested peak_of peak_at (is_from part.items x1 x2) (λ p. is_between x1 x2 (shape_of p)) (λ k p. refl) 0 part.flags part.items (from_at part.items x1 x2))
    ∙ sym (top_first x1 x2 (live_of part))

-- where the first of all is no better than the best so far, or there is none, none is
pub joined_top : (part : Contents Point) (heap : Heap) (height : ℕ) → IsTree part heap height → (x1 x2 : ℕ) (old new : Option Peak)
    → new ≡ first_of_both higher_le old (best_of (filter (is_from part.items x1 x2) (entries_in heap height 0))) → new ≡ first_of_both higher_le old (top x1 x2 (live_of part))
joined_top part heap height tree x1 x2 old new joined = joined ∙ ap (first_of_both higher_le old) (top_is part heap height tree x1 x2)

pub joined_strip : (part : Contents Point) (heap : Heap) (height : ℕ) → IsTree part heap height → (x1 x2 : ℕ) (strip : Strip) (old new : Option Peak) → IsStrip part.items x1 x2 strip
    → new ≡ first_of_both higher_le old (best_of (filter (is_in strip) (entries_in heap height 0))) → new ≡ first_of_both higher_le old (top x1 x2 (live_of part))
joined_strip part heap height tree x1 x2 strip old new is joined =
    joined_top part heap height tree x1 x2 old new (joined ∙ ap (λ l. first_of_both higher_le old (best_of l)) (strip_entries part heap height tree x1 x2 strip is))

pub joined_nothing : (part : Contents Point) (heap : Heap) (height : ℕ) → IsTree part heap height → (x1 x2 : ℕ) (old : Option Peak) → entries_in heap height 0 ≡ []
    → old ≡ first_of_both higher_le old (top x1 x2 (live_of part))
joined_nothing part heap height tree x1 x2 old none =
    joined_top part heap height tree x1 x2 old old (joined_none (is_from part.items x1 x2) old (entries_in heap height 0) (ap (filter (is_from part.items x1 x2)) none))

pub joined_beaten : (part : Contents Point) (heap : Heap) (height : ℕ) → IsTree part heap height → (x1 x2 : ℕ) (old : Option Peak) (beats : Bool) (e : Entry)
    → IsOver e (entries_in heap height 0) → MatchOption old (IsTrue beats) (λ best. beats ≡ not (higher_le best (peak_of e))) → beats ≡ false
    → old ≡ first_of_both higher_le old (top x1 x2 (live_of part))
joined_beaten part heap height tree x1 x2 old beats e is_over is worse =
    joined_top part heap height tree x1 x2 old old (joined_all_worse (is_from part.items x1 x2) old beats e (entries_in heap height 0) is_over is worse)

-- ---- those that are high

high_at : (points : List Point) (x1 x2 y j : ℕ) (p : Point) → slice_get points j ≡ Some p
    → (is_from points x1 x2 (entry_at (0 + j) p) && nat_le y p.y) ≡ is_above x1 x2 y (shape_of p)
high_at points x1 x2 y j p at = ap (λ b. b && nat_le y p.y) (from_at points x1 x2 j p at) ∙ regrouped (nat_le x1 p.x) (nat_le p.x x2) (nat_le y p.y)
  where
    regrouped : (a b c : Bool) → ((a && b) && c) ≡ (a && b && c)
    regrouped true b c = refl
    regrouped false b c = refl

ids : (x1 x2 y : ℕ) (points : List Point)
    → map (λ item. item.id) (filter (λ item. is_above x1 x2 y item.shape) (map item_of points)) ≡ map (λ p. p.id) (filter (λ p. is_above x1 x2 y (shape_of p)) points)
ids x1 x2 y [] = refl
ids x1 x2 y (p ∷ points) = grind (arith, common_steps, ids x1 x2 y points)

module _ (part : Contents Point) (heap : Heap) (height : ℕ) (tree : IsTree part heap height) (x1 x2 y : ℕ) where
  abbrev high : Entry → Bool
  high e = is_from part.items x1 x2 e && nat_le y e.y

  high_ids : map (λ (e : Entry). e.id) (filter high (live_entries 0 part.flags part.items)) ≡ map (λ (p : Point). p.id) (filter (λ p. is_above x1 x2 y (shape_of p)) (live_of part))
  high_ids = tested (λ (e : Entry). e.id) (λ (p : Point). p.id) high (λ p. is_above x1 x2 y (shape_of p)) (λ k p. refl) 0 part.flags part.items (high_at part.items x1 x2 y)

  pub above_is : sorted_ids (ids_of (filter high (entries_in heap height 0))) ≡ above x1 x2 y (live_of part)
  above_is =
      sorted_ids-Permuted (Permuted-map (λ (e : Entry). e.id) (Permuted-filter high tree.entries)) ∙ ap sorted_ids (high_ids ∙ sym (ids x1 x2 y (live_of part)))
      ∙ sorted_ids-sorted_by (map (λ item. item.id) (filter (λ item. is_above x1 x2 y item.shape) (map item_of (live_of part))))

  pub many_high : length (filter high (entries_in heap height 0)) ≡ length (filter (λ p. is_above x1 x2 y (shape_of p)) (live_of part))
  many_high =
      Permuted-length (Permuted-filter high tree.entries)
      ∙ sym (length-map (filter high (live_entries 0 part.flags part.items)) (λ (e : Entry). e.id)) ∙ ap length high_ids
      ∙ length-map (filter (λ p. is_above x1 x2 y (shape_of p)) (live_of part)) (λ (p : Point). p.id)

  module _ (strip : Strip) (is : IsStrip part.items x1 x2 strip) where
    pub joined_high : (old new : List ℕ) → new ≡ old ++ ids_of (filter (is_hit strip y) (entries_in heap height 0))
        → sorted_ids new ≡ sorted_union (sorted_ids old) (above x1 x2 y (live_of part))
    joined_high old new listed =
        let hits : List Entry = filter (is_hit strip y) (entries_in heap height 0) in
        ap sorted_ids listed ∙ sorted_ids-append old (ids_of hits)
        ∙ ap (λ l. sorted_union (sorted_ids old) (sorted_ids (ids_of l))) (strip_hits part heap height tree x1 x2 strip y is)
        ∙ ap (sorted_union (sorted_ids old)) above_is

    pub many_hits : length (filter (is_hit strip y) (entries_in heap height 0)) ≡ length (filter (λ p. is_above x1 x2 y (shape_of p)) (live_of part))
    many_hits = ap length (strip_hits part heap height tree x1 x2 strip y is) ∙ many_high

-- ---- what a walk touches

one_cut : (low high place : ℕ) → cut_at low high place ≤ 1
one_cut low high place = grind (arith, nat_tests)

two_cuts : (strip : Strip) (height start : ℕ) → cuts strip height start ≤ 2
two_cuts strip height start =
    omega (arith, one_cut (16 * start) (16 * (start + 2 ^ height)) strip.from, one_cut (16 * start) (16 * (start + 2 ^ height)) strip.to)

pub walk_cost : (strip : Strip) (n height h : ℕ) → height ≤ h → height * cuts strip height 0 ≤ 2 * h
walk_cost strip n height h low =
    let most : height * cuts strip height 0 ≤ height * 2 = times height (cuts strip height 0) 2 (two_cuts strip height 0) in
    omega (arith, most, low)
  where
    times : (m a b : ℕ) → a ≤ b → m * a ≤ m * b
    times m a b le = grind (arith, le)

pub height_is_least : (part : Contents Point) (heap : Heap) (height : ℕ) → IsTree part heap height
    → (length part.items ≤ 2 ^ least_height (length part.items)) × (height ≤ least_height (length part.items))
height_is_least part heap height tree =
    let few : length part.items < 2 ^ 64 = omega (arith, few_points part heap height tree) in
    let least = IsLeastHeight-height_of (length part.items) few in
    (least.above, tree.shape.least (least_height (length part.items)) least.above)
