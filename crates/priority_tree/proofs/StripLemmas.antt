-- Strips in a tree: blocks that a strip misses, and how much of a tree its two ends cut.
use Rattle.std.proofs.Common.{◌≡◌, ℕ, suc, ◌+◌, ◌*◌, ◌^◌, ◌<◌, ◌≤◌, Bool, true, false, cond, ◌&&◌, ◌||◌, List, [], ◌∷◌, ◌++◌, Option, Some, None, refl, sym, ap, ◌∙◌, arith, inl, inr, subst}
use Rattle.std.specs.Prelude.{nat_le, nat_lt}
use Rattle.std.specs.List.{filter}
use Rattle.std.specs.Option.{option_to_list}
use Rattle.std.proofs.lemmas.Bool.Decides.{nat_tests}
use Rattle.priority_tree.specs.declared.entry.Entry.{Entry}
use Rattle.priority_tree.specs.declared.heap.Heap.{Heap}
use Rattle.priority_tree.specs.declared.strip.Strip.{Strip}
use Rattle.priority_tree.specs.Entries.{IsAmong, IsOver}
use Rattle.priority_tree.specs.Tree.{node_at, entries_in, IsInside, IsHolder, IsHeap}
use Rattle.priority_tree.specs.Strips.{is_in, is_hit, is_missed, cut_at, cuts}
use Rattle.priority_tree.proofs.TreeLemmas

pub filter_none : (test : Entry → Bool) (es : List Entry) → ((e : Entry) → IsAmong e es → test e ≡ false) → filter test es ≡ []
filter_none test [] fails = refl
filter_none test (e ∷ es) fails =
    ap (λ b. cond b (e ∷ filter test es) (filter test es)) (fails e (inl refl)) ∙ filter_none test es (λ x among. fails x (inr among))

missed_at : (from to low high place : ℕ) → (nat_le to low || nat_le high from) ≡ true → low ≤ place → place < high → (nat_le from place && nat_lt place to) ≡ false
missed_at from to low high place missed above below = grind (arith, nat_tests)

cut_some : (from to low high place : ℕ) → (nat_le to low || nat_le high from) ≡ false → from ≤ to → low ≤ place → place < high
    → (nat_le from place && nat_lt place to) ≡ false → 1 ≤ cut_at low high from + cut_at low high to
cut_some from to low high place met ordered above below outside = grind (arith, nat_tests)

cut_halves : (low middle high place : ℕ) → low ≤ middle → middle ≤ high → cut_at low middle place + cut_at middle high place ≤ cut_at low high place
cut_halves low middle high place first second = grind (arith, nat_tests)

module _ (heap : Heap) (h start : ℕ) (strip : Strip) (held : IsHeap heap h start) (missed : is_missed strip h start ≡ true) where
  outside : (e : Entry) → IsAmong e (entries_in heap h start) → is_in strip e ≡ false
  outside e among =
      let is = TreeLemmas.inside heap h start held e among in
      missed_at strip.from strip.to (16 * start) (16 * (start + 2 ^ h)) e.place missed is.from is.to

  pub missed_in : filter (is_in strip) (entries_in heap h start) ≡ []
  missed_in = filter_none (is_in strip) (entries_in heap h start) outside

  pub missed_hits : (y : ℕ) → filter (is_hit strip y) (entries_in heap h start) ≡ []
  missed_hits y = filter_none (is_hit strip y) (entries_in heap h start) (λ e among. ap (λ b. b && nat_le y e.y) (outside e among))

-- what stands in a block whose place holds a point
module _ (heap : Heap) (h low start k : ℕ) (x : Entry) (o : Option Entry) (e : h ≡ suc low) (at : k ≡ start + 2 ^ low) (is : o ≡ node_at heap k) where
  holder_of : IsHeap heap h start → IsHolder (suc low) start o (entries_in heap low start ++ entries_in heap low (start + 2 ^ low))
  holder_of held =
      subst (λ (p : Option Entry). IsHolder (suc low) start p (entries_in heap low start ++ entries_in heap low (start + 2 ^ low))) (sym (is ∙ ap (node_at heap) at))
      (subst (λ (n : ℕ). IsHeap heap n start) e held).0

  whole_of : entries_in heap h start ≡ option_to_list o ++ (entries_in heap low start ++ entries_in heap low (start + 2 ^ low))
  whole_of =
      ap (λ (n : ℕ). entries_in heap n start) e
      ∙ ap (λ (p : Option Entry). option_to_list p ++ (entries_in heap low start ++ entries_in heap low (start + 2 ^ low))) (sym (is ∙ ap (node_at heap) at))

  pub none_at : IsHeap heap h start → o ≡ None → entries_in heap h start ≡ []
  none_at held none =
      whole_of ∙ ap (λ (p : Option Entry). option_to_list p ++ (entries_in heap low start ++ entries_in heap low (start + 2 ^ low))) none
      ∙ subst (λ (p : Option Entry). IsHolder (suc low) start p (entries_in heap low start ++ entries_in heap low (start + 2 ^ low))) none (holder_of held)

  pub entries_at : o ≡ Some x → entries_in heap h start ≡ x ∷ (entries_in heap low start ++ entries_in heap low k)
  entries_at some =
      whole_of ∙ ap (λ (p : Option Entry). option_to_list p ++ (entries_in heap low start ++ entries_in heap low (start + 2 ^ low))) some
      ∙ ap (λ (n : ℕ). x ∷ (entries_in heap low start ++ entries_in heap low n)) (sym at)

  there : IsHeap heap h start → o ≡ Some x → IsHolder (suc low) start (Some x) (entries_in heap low start ++ entries_in heap low (start + 2 ^ low))
  there held some =
      subst (λ (p : Option Entry). IsHolder (suc low) start p (entries_in heap low start ++ entries_in heap low (start + 2 ^ low))) some (holder_of held)

  pub over_at : IsHeap heap h start → o ≡ Some x → IsOver x (entries_in heap low start ++ entries_in heap low k)
  over_at held some = subst (λ (n : ℕ). IsOver x (entries_in heap low start ++ entries_in heap low n)) (sym at) (there held some).1

  pub inside_at : IsHeap heap h start → o ≡ Some x → IsInside h start x
  inside_at held some = subst (λ (n : ℕ). IsInside n start x) (sym e) (there held some).0

-- ---- what the ends of a strip cut

module _ (strip : Strip) (h low start k : ℕ) (e : h ≡ suc low) (at : k ≡ start + 2 ^ low) where
  halves_cut : cuts strip low start + cuts strip low (start + 2 ^ low) ≤ cuts strip (suc low) start
  halves_cut =
      let twice = TreeLemmas.doubled low in
      let first = cut_halves (16 * start) (16 * (start + 2 ^ low)) (16 * (start + 2 ^ low + 2 ^ low)) strip.from (omega arith) (omega arith) in
      let second = cut_halves (16 * start) (16 * (start + 2 ^ low)) (16 * (start + 2 ^ low + 2 ^ low)) strip.to (omega arith) (omega arith) in
      let end : 16 * (start + 2 ^ low + 2 ^ low) ≡ 16 * (start + 2 ^ suc low) = omega (arith, twice) in
      subst (λ (n : ℕ). cuts strip low start + cuts strip low (start + 2 ^ low) ≤ cut_at (16 * start) n strip.from + cut_at (16 * start) n strip.to) end
      (omega (arith, first, second))

  pub cuts_halves : cuts strip low start + cuts strip low k ≤ cuts strip h start
  cuts_halves =
      subst (λ (n : ℕ). cuts strip low start + cuts strip low n ≤ cuts strip h start) (sym at)
      (subst (λ (n : ℕ). cuts strip low start + cuts strip low (start + 2 ^ low) ≤ cuts strip n start) (sym e) halves_cut)

pub cuts_some : (strip : Strip) (h start : ℕ) (x : Entry) → strip.from ≤ strip.to → is_missed strip h start ≡ false → IsInside h start x → is_in strip x ≡ false
    → 1 ≤ cuts strip h start
cuts_some strip h start x ordered met is out = cut_some strip.from strip.to (16 * start) (16 * (start + 2 ^ h)) x.place met ordered is.from is.to out

scaled : (n a b : ℕ) → a ≤ b → n * a ≤ n * b
scaled n a b le = grind (arith, le)

pub walked : (h low c a b : ℕ) → h ≡ suc low → a + b ≤ c → 1 ≤ c → 1 + (1 + 2 * (low * a)) + (1 + 2 * (low * b)) ≤ 1 + 2 * (h * c)
walked h low c a b e fewer some = let more = scaled low (a + b) c fewer in omega (arith, more, ap (λ n. n * c) e)

pub walked_hits : (h low c a b k k1 k2 hit : ℕ) → h ≡ suc low → a + b ≤ c → 1 ≤ c + hit → k ≡ hit + (k1 + k2)
    → 1 + (1 + 2 * (low * a) + 2 * k1) + (1 + 2 * (low * b) + 2 * k2) ≤ 1 + 2 * (h * c) + 2 * k
walked_hits h low c a b k k1 k2 hit e fewer some is = let more = scaled low (a + b) c fewer in omega (arith, more, ap (λ n. n * c) e)
