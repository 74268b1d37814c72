-- The points of a block that are listed by its halves.
use Rattle.std.proofs.Common.{◌≡◌, ℕ, ◌+◌, ◌-◌, ◌*◌, ◌^◌, ◌<◌, ◌≤◌, ◌&&◌, Bool, true, false, cond, nat_le, nat_lt, List, [], ◌∷◌, ◌++◌, length, length-append, map, slice_range, append_assoc, sym, ap, ap₂, ◌∙◌, subst, arith}
use Rattle.std.specs.List.{filter, flat_map}
use Rattle.std.proofs.lemmas.Bool.Decides.{nat_tests}
use Rattle.std.proofs.lemmas.List.{map-append}
use Rattle.std.proofs.lemmas.List.Concat.{flat_map-append}
use Rattle.std.proofs.lemmas.List.Elements.{filter-append}
use Rattle.query_laws.specs.Permuted.{Permuted, nothing, same_head, composed}
use Rattle.query_laws.proofs.Permutations.{Permuted-append_left, Permuted-append_right, Permuted-middle, Permuted-map, Permuted-filter, Permuted-flat_map, Permuted-length}
use Rattle.builder_trait.specs.Parts.{Contents}
use Rattle.row_blocks.specs.Partitions.{block_of, is_in_block}
use Rattle.row_blocks.proofs.Blocks.{pow_next}
use Rattle.map_shapes.specs.declared.point.Point.{Point}
use Rattle.range_tree.specs.declared.rows.RangeTree.{RangeTree}
use Rattle.range_tree.specs.declared.scanning.Places.{Places}
use Rattle.range_tree.specs.declared.descending.Span.{Span}
use Rattle.range_tree.specs.Heights.{rows_to}
use Rattle.range_tree.specs.Queries.{live_at, AreHalves, is_at, live_in_span}

-- what one of two tests keeps, by the two
parted : (p q r : ℕ → Bool) → ((x : ℕ) → cond (p x) 1 0 + cond (q x) 1 0 ≡ cond (r x) 1 0) → (xs : List ℕ) → Permuted (filter p xs ++ filter q xs) (filter r xs)
parted p q r sum [] = nothing
parted p q r sum (x ∷ xs) = by (p x) (q x) (r x) (sum x) (parted p q r sum xs)
  where
    by : (a b c : Bool) → cond a 1 0 + cond b 1 0 ≡ cond c 1 0 → Permuted (filter p xs ++ filter q xs) (filter r xs)
        → Permuted (cond a (x ∷ filter p xs) (filter p xs) ++ cond b (x ∷ filter q xs) (filter q xs)) (cond c (x ∷ filter r xs) (filter r xs))
    by true false true e rest = same_head x rest
    by false true true e rest = composed (Permuted-middle (filter p xs) x (filter q xs)) (same_head x rest)
    by false false false e rest = rest
    by true true true e rest = absurd (omega (arith, e))
    by true true false e rest = absurd (omega (arith, e))
    by true false false e rest = absurd (omega (arith, e))
    by false true false e rest = absurd (omega (arith, e))
    by false false true e rest = absurd (omega (arith, e))

block_parted : (k start : ℕ) (xs : List ℕ) → Permuted (block_of (λ p. p) k start xs ++ block_of (λ p. p) k (start + 2 ^ k) xs) (block_of (λ p. p) (k + 1) start xs)
block_parted k start xs =
    parted (is_in_block (λ p. p) k start) (is_in_block (λ p. p) k (start + 2 ^ k)) (is_in_block (λ p. p) (k + 1) start)
    (λ x. one start x (2 ^ k) (2 ^ (k + 1)) (pow_next k)) xs
  where
    one : (a p half long : ℕ) → long ≡ half + half
        → cond (nat_le a p && nat_lt p (a + half)) 1 0 + cond (nat_le (a + half) p && nat_lt p (a + half + half)) 1 0 ≡ cond (nat_le a p && nat_lt p (a + long)) 1 0
    one a p half long twice = grind (arith, nat_tests)

module _ (part : Contents Point) (rows : RangeTree) (low high : ℕ) (places : Places) (span first second : Span) (halves : AreHalves part rows low high span first second)
    (below : span.row + 1 < rows_to rows.height) where
  pub list_halves : Permuted (live_in_span part rows low high places first ++ live_in_span part rows low high places second) (live_in_span part rows low high places span)
  list_halves =
      let k : ℕ = rows.height - (span.row + 1) in
      let next : rows.height - span.row ≡ k + 1 = omega (arith, below) in
      let lower : rows.height - span.row - 1 ≡ k = omega arith in
      let slice : List ℕ = slice_range part.places low high in
      let live : ℕ → ℕ → List Point = λ h start. flat_map (live_at part) (filter (is_at places) (block_of (λ p. p) h start slice)) in
      let first_is : live (rows.height - first.row) first.start ≡ live k span.start = ap₂ (λ r s. live (rows.height - r) s) halves.first_row halves.first_start in
      let second_is : live (rows.height - second.row) second.start ≡ live k (span.start + 2 ^ k) =
      ap₂ (λ r s. live (rows.height - r) s) halves.second_row (halves.second_start ∙ ap (λ j. span.start + 2 ^ j) lower) in
      let one : List ℕ = block_of (λ p. p) k span.start slice in
      let two : List ℕ = block_of (λ p. p) k (span.start + 2 ^ k) slice in
      let both : flat_map (live_at part) (filter (is_at places) (one ++ two)) ≡ live k span.start ++ live k (span.start + 2 ^ k) =
      ap (flat_map (live_at part)) (filter-append (is_at places) one two) ∙ flat_map-append (live_at part) (filter (is_at places) one) (filter (is_at places) two) in
      let all : Permuted (flat_map (live_at part) (filter (is_at places) (one ++ two))) (live (k + 1) span.start) =
      Permuted-flat_map (live_at part) (Permuted-filter (is_at places) (block_parted k span.start slice)) in
      subst (λ l. Permuted l (live (rows.height - span.row) span.start)) (both ∙ sym (ap₂ (λ us vs. us ++ vs) first_is second_is))
      (subst (λ h. Permuted (flat_map (live_at part) (filter (is_at places) (one ++ two))) (live h span.start)) (sym next) all)

  pub length_halves : length (live_in_span part rows low high places first) + length (live_in_span part rows low high places second) ≡ length (live_in_span part rows low high places span)
  length_halves = sym (length-append (live_in_span part rows low high places first) (live_in_span part rows low high places second)) ∙ Permuted-length list_halves

-- pushed by halves
pub pushed_halves : {X : Type 0} (f : X → ℕ) (old mid new : List ℕ) (one two all : List X) → Permuted mid (old ++ map f one) → Permuted new (mid ++ map f two)
    → Permuted (one ++ two) all → Permuted new (old ++ map f all)
pushed_halves f old mid new one two all first second both =
    let joined : (old ++ map f one) ++ map f two ≡ old ++ map f (one ++ two) =
    append_assoc old (map f one) (map f two) ∙ ap (λ l. old ++ l) (sym (map-append f one two)) in
    composed second
    (composed (Permuted-append_left (map f two) first)
    (subst (λ l. Permuted l (old ++ map f all)) (sym joined) (Permuted-append_right old (Permuted-map f both))))

-- what both cost
pub cost_listed : (first second all each one two n : ℕ) → 2 + first + second ≤ all → one + two ≡ n
    → 2 + (first + one * each) + (second + two * each) ≤ all + n * each
cost_listed first second all each one two n bound is = omega (arith, bound, ap (λ k. k * each) is)

-- what one costs that is taken whole
pub cost_listed_whole : (one all listed : ℕ) → 2 + (one + 0) ≤ all → 2 + (one + listed) ≤ all + listed
cost_listed_whole one all listed bound = omega (arith, bound)

-- a part of a sum
pub less_one : (a b c : ℕ) → a + b ≤ c → a ≤ c
less_one a b c le = omega arith

pub less_two : (a b c d : ℕ) → a + b + c ≤ d → a ≤ d
less_two a b c d le = omega arith
