-- Stacks of blocks, and what a visit to a block may take.
use Rattle.std.proofs.Common.{◌≡◌, ℕ, zero, suc, ◌+◌, ◌-◌, ◌*◌, ◌^◌, ◌<◌, ◌≤◌, Bool, true, false, not, cond, List, [], ◌∷◌, ◌++◌, length, Some, None, slice_get, All, refl, sym, ap, ap₂, ◌∙◌, arith, subst, append-nil, ⊎_elim, ◌⊎◌, inl, inr}
use Rattle.std.specs.List.{flat_map, filter, sum_by}
use Rattle.std.proofs.lemmas.Bool.{cases_lt}
use Rattle.std.proofs.lemmas.Option.{same_Some, slice_get_within, slice_get_cases}
use Rattle.std.proofs.lemmas.List.{map-append}
use Rattle.std.proofs.lemmas.List.Concat.{flat_map-append}
use Rattle.std.proofs.lemmas.List.Elements.{All-map, All-filter, filter_passes, All-head, All-tail}
use Rattle.std.proofs.lemmas.List.Filters.{sum_by-filter_both}
use Rattle.std.proofs.lemmas.List.Sums.{sum_by-append, sum_by-cons}
use Rattle.query_laws.specs.Permuted.{Permuted}
use Rattle.query_laws.proofs.Permutations.{Permuted-append_right}
use Rattle.row_blocks.proofs.Lists.{at_slot}
use Rattle.builder_trait.specs.Parts.{Contents}
use Rattle.map_shapes.specs.declared.point.Point.{Point}
use Rattle.map_model.specs.Found.{Found}
use Rattle.map_shapes.specs.Found.{nearer_le}
use Rattle.map_questions.specs.declared.near.Near.{Near}
use Rattle.map_questions.specs.FirstFew.{IsFirstFew}
use Rattle.map_questions.specs.Questions.{found_at}
use Rattle.kd_tree.specs.declared.spot.Spot.{Spot}
use Rattle.kd_tree.specs.declared.area.Area.{Area}
use Rattle.kd_tree.specs.declared.block.Block.{Block}
use Rattle.kd_tree.specs.Areas.{Has, apart, spot_of}
use Rattle.kd_tree.specs.Distances.{least}
use Rattle.kd_tree.specs.Heights.{span}
use Rattle.kd_tree.specs.HeightLaws.{span_more}
use Rattle.kd_tree.specs.Blocks.{Holds, IsNode}
use Rattle.kd_tree.specs.Walks.{live_in, live_in_block, start_of, end_of, spot_asked, IsFar, IsBlock, IsChild, IsStack, IsLeftOut, Takes, founds, work, work_of, work_of_all}
use Rattle.kd_tree.proofs.Placings.{pushed_before, pushed_last}
use Rattle.kd_tree.proofs.LivePoints.{live_in-split, All-live, no_items}
use Rattle.kd_tree.proofs.Takings.{Takes-none, Takes-worse, Takes-then, no_nearer}

-- ---- how much a walk may touch

span_suc : (l : ℕ) → span (suc l) ≡ 4 * span l
span_suc l = let next : suc l ≡ l + 1 = omega arith in ap span next ∙ span_more l

module _ (n : ℕ) where
  work-none : (l start : ℕ) → n ≤ start → work n l start ≡ 0
  work-none zero start past = omega arith
  work-none (suc l) start past =
      omega (
        arith,
        work-none l start past,
        work-none l (start + span l) (omega arith),
        work-none l (start + 2 * span l) (omega arith),
        work-none l (start + 3 * span l) (omega arith),
      )

  work-full : (l start : ℕ) → start + span l ≤ n → work n l start + 1 ≤ 5 * span l
  work-full zero start within = omega arith
  work-full (suc l) start within =
      let more = span_suc l in
      omega (
        arith,
        more,
        work-full l start (omega (arith, more)),
        work-full l (start + span l) (omega (arith, more)),
        work-full l (start + 2 * span l) (omega (arith, more)),
        work-full l (start + 3 * span l) (omega (arith, more)),
      )

  pub work-part : (l start : ℕ) → work n l start ≤ 5 * (n - start) + l
  work-part zero start = omega arith
  work-part (suc l) start =
      let s = span l in
      ⊎_elim
      (λ a.
      ⊎_elim
      (λ b.
      ⊎_elim
      (λ d. omega (arith, work-full l start (omega (arith, a)), work-full l (start + s) (omega (arith, b)), work-full l (start + 2 * s) (omega (arith, d)), work-part l (start + 3 * s)))
      (λ d. omega (arith, work-full l start (omega (arith, a)), work-full l (start + s) (omega (arith, b)), work-part l (start + 2 * s), work-none l (start + 3 * s) d))
      (cases_lt (start + 3 * s) n))
      (λ b. omega (arith, work-full l start (omega (arith, a)), work-part l (start + s), work-none l (start + 2 * s) b, work-none l (start + 3 * s) (omega (arith, b))))
      (cases_lt (start + 2 * s) n))
      (λ a. omega (arith, work-part l start, work-none l (start + s) a, work-none l (start + 2 * s) (omega (arith, a)), work-none l (start + 3 * s) (omega (arith, a))))
      (cases_lt (start + s) n)

  -- a block that begins below n takes some
  pub work-some : (l start : ℕ) → start < n → 1 ≤ work n l start
  work-some zero start below = omega arith
  work-some (suc l) start below = omega arith

  -- a node takes one touch, and its blocks the rest
  pub work-node : (l place : ℕ) → place * span (l + 1) < n
      → 1 + (work n l (4 * place * span l) + work n l ((4 * place + 1) * span l) + work n l ((4 * place + 2) * span l) + work n l ((4 * place + 3) * span l))
      ≡ work n (l + 1) (place * span (l + 1))
  work-node l place below =
      let more = span_more l in
      let first : 4 * place * span l ≡ place * span (l + 1) = omega (arith, ap (λ s. place * s) more) in
      let second : (4 * place + 1) * span l ≡ place * span (l + 1) + span l = omega (arith, ap (λ s. place * s) more) in
      let third : (4 * place + 2) * span l ≡ place * span (l + 1) + 2 * span l = omega (arith, ap (λ s. place * s) more) in
      let fourth : (4 * place + 3) * span l ≡ place * span (l + 1) + 3 * span l = omega (arith, ap (λ s. place * s) more) in
      let next : suc l ≡ l + 1 = omega arith in
      let whole : work n (suc l) (place * span (l + 1)) ≡ work n (l + 1) (place * span (l + 1)) = ap (λ m. work n m (place * span (l + 1))) next in
      omega (arith, ap (work n l) first, ap (work n l) second, ap (work n l) third, ap (work n l) fourth, whole, below)

-- all of a tree
pub work-all : (n depth : ℕ) → 0 < n → depth ≤ 15 → work n depth 0 ≤ 16 * (n + 1)
work-all n depth some low = omega (arith, work-part n depth 0)

-- ---- lists

module _ {A : Type 0} where
  appended_cases : (xs ys : List A) (k : ℕ) (y : A) → slice_get (xs ++ ys) k ≡ Some y
      → (slice_get xs k ≡ Some y) ⊎ ((j : ℕ) × (k ≡ length xs + j) × (slice_get ys j ≡ Some y))
  appended_cases [] ys k y at = inr (k, omega arith, at)
  appended_cases (x ∷ xs) ys zero y at = inl at
  appended_cases (x ∷ xs) ys (suc k) y at = ⊎_elim (λ h. inl h) (λ h. inr (h.0, omega (arith, h.1), h.2)) (appended_cases xs ys k y at)

  pub empty_from : (xs : List A) → slice_get xs (length xs - 1) ≡ None → xs ≡ []
  empty_from [] none = refl
  empty_from (x ∷ xs) none =
      ⊎_elim (λ (y, inside, at, read). let no : Some y ≡ None = sym at ∙ none in absurd cc) (λ (past, nothing). absurd (omega arith))
      (slice_get_cases (x ∷ xs) (length (x ∷ xs) - 1)).1

  length-filter-le : (p : A → Bool) (xs : List A) → length (filter p xs) ≤ length xs
  length-filter-le p [] = omega arith
  length-filter-le p (x ∷ xs) = by (p x) (length-filter-le p xs)
    where
      by : (b : Bool) → length (filter p xs) ≤ length xs → length (cond b (x ∷ filter p xs) (filter p xs)) ≤ length (x ∷ xs)
      by true le = omega (arith, le)
      by false le = omega (arith, le)

  flat_map-filter : {B : Type 0} (p : A → Bool) (f : A → List B) (xs : List A) → All (λ x. p x ≡ false → f x ≡ []) xs
      → flat_map f (filter p xs) ≡ flat_map f xs
  flat_map-filter p f [] none = refl
  flat_map-filter p f (x ∷ xs) none =
      by (p x) refl (flat_map-filter p f xs (All-tail (λ y. p y ≡ false → f y ≡ []) x xs none))
    where
      by : (b : Bool) → p x ≡ b → flat_map f (filter p xs) ≡ flat_map f xs → flat_map f (cond b (x ∷ filter p xs) (filter p xs)) ≡ f x ++ flat_map f xs
      by true is same = ap (λ l. f x ++ l) same
      by false is same = same ∙ ap (λ l. l ++ flat_map f xs) (sym (All-head (λ y. p y ≡ false → f y ≡ []) x xs none is))

sum_by-filter-le : {A : Type 0} (p : A → Bool) (f : A → ℕ) (xs : List A) → sum_by f (filter p xs) ≤ sum_by f xs
sum_by-filter-le p f xs = omega (arith, sum_by-filter_both p (λ x. not (p x)) (λ x. refl) f xs)

-- ---- blocks

module _ (part : Contents Point) (order : List ℕ) (q : Near) where
  -- a block with a box that has its live points
  pub IsFar-of : (area : Area) (b : Block) (l place : ℕ) → b.level ≡ l → b.place ≡ place
      → Holds part order area (place * span l) ((place + 1) * span l)
      → ((spot : Spot) → Has area spot → place * span l < length order → (b.some ≡ true) × (least b.dist ≤ apart (spot_asked q) spot)) → IsFar part order q b
  IsFar-of area b l place level there holds far = record {
    each = λ position k p low high stands item flag.
        let from : start_of b ≡ place * span l = ap (λ m. m * span b.level) there ∙ ap (λ m. place * span m) level in
        let to : end_of b ≡ (place + 1) * span l = ap (λ m. (m + 1) * span b.level) there ∙ ap (λ m. (place + 1) * span m) level in
        far (spot_of p) (holds.each position k p (omega (arith, from, low)) (omega (arith, to, high)) stands item flag)
        (omega (arith, from, low, slice_get_within order position k stands));
  }

  -- one that says that it has no live points has none
  pub IsFar-none : (b : Block) → IsFar part order q b → b.some ≡ false → live_in_block part order b ≡ []
  IsFar-none b far none =
      no_items (live_in_block part order b)
      (All-live part order (λ p. ⊥) (start_of b) (end_of b)
      (λ position k p low high stands item flag. let some : b.some ≡ true = (far.each position k p low high stands item flag).0 in cc)
      (omega arith))

  module _ (depth n : ℕ) where
    pub IsStack-none : IsStack part order q depth n []
    IsStack-none = record { blocks = λ k b at. cc; far = λ k b at. cc; low = λ k b at. cc }

    pub IsStack-pushed : (xs : List Block) (b : Block) → IsStack part order q depth n xs → IsBlock depth n b → IsFar part order q b
        → length xs + 3 * b.level ≤ 3 * depth → IsStack part order q depth n (xs ++ b ∷ [])
    IsStack-pushed xs b stack block far low = record {
      blocks = λ k x at. ⊎_elim (λ h. stack.blocks k x h) (λ (j, is, here). subst (IsBlock depth n) (one b x j here).1 block) (appended_cases xs (b ∷ []) k x at);
      far = λ k x at. ⊎_elim (λ h. stack.far k x h) (λ (j, is, here). subst (IsFar part order q) (one b x j here).1 far) (appended_cases xs (b ∷ []) k x at);
      low = λ k x at.
          ⊎_elim (λ h. stack.low k x h)
          (λ (j, is, here). omega (arith, is, (one b x j here).0, ap (λ y. y.level) (one b x j here).1, low)) (appended_cases xs (b ∷ []) k x at);
    }
      where
        one : (b x : Block) (j : ℕ) → slice_get (b ∷ []) j ≡ Some x → (j ≡ 0) × (b ≡ x)
        one b x zero at = (refl, same_Some b x at)
        one b x (suc j) at = cc

    -- the last block, and those below it
    pub IsStack-popped : (xs : List Block) (b : Block) → IsStack part order q depth n (xs ++ b ∷ [])
        → IsStack part order q depth n xs × IsBlock depth n b × IsFar part order q b × (length xs + 3 * b.level ≤ 3 * depth)
    IsStack-popped xs b stack = (
      record {
        blocks = λ k x at. stack.blocks k x (pushed_before xs b k x at);
        far = λ k x at. stack.far k x (pushed_before xs b k x at);
        low = λ k x at. stack.low k x (pushed_before xs b k x at);
      },
      stack.blocks (length xs) b (pushed_last xs b),
      stack.far (length xs) b (pushed_last xs b),
      stack.low (length xs) b (pushed_last xs b),
    )

    module _ (l : ℕ) (xs blocks : List Block) (children : All (IsChild part order q depth n l) blocks) (four : length blocks ≡ 4) where
      abbrev some : List Block
      some = filter (λ b. b.some) blocks

      child_at : (k : ℕ) (b : Block) → slice_get some k ≡ Some b → IsChild part order q depth n l b × (b.some ≡ true)
      child_at k b at = (
        at_slot (IsChild part order q depth n l) some k b (All-filter (λ b. b.some) (IsChild part order q depth n l) blocks children) at,
        at_slot (λ b. b.some ≡ true) some k b (filter_passes (λ b. b.some) blocks) at,
      )

      pub IsStack-opened : IsStack part order q depth n xs → l < depth → length xs + 3 * (l + 1) ≤ 3 * depth → IsStack part order q depth n (xs ++ some)
      IsStack-opened stack inside low = record {
        blocks = λ k b at.
            ⊎_elim (λ h. stack.blocks k b h)
            (λ (j, is, here).
            let child = child_at j b here in
            record {
              level = omega (arith, child.0.level);
              place = subst (λ m. b.place < 4 ^ (depth - m)) (sym child.0.level) child.0.place;
              within = child.0.within child.1;
            })
            (appended_cases xs some k b at);
        far = λ k b at. ⊎_elim (λ h. stack.far k b h) (λ (j, is, here). (child_at j b here).0.far) (appended_cases xs some k b at);
        low = λ k b at.
            ⊎_elim (λ h. stack.low k b h)
            (λ (j, is, here).
            omega (arith, is, (child_at j b here).0.level, slice_get_within some j b here, length-filter-le (λ b. b.some) blocks, four, low))
            (appended_cases xs some k b at);
      }

      pub live-opened : (block : Block) → Permuted (flat_map (live_in_block part order) blocks) (live_in_block part order block)
          → Permuted (flat_map (live_in_block part order) (xs ++ some)) (flat_map (live_in_block part order) (xs ++ block ∷ []))
      live-opened block same =
          let live = live_in_block part order in
          let left : flat_map live (xs ++ some) ≡ flat_map live xs ++ flat_map live blocks =
          flat_map-append live xs some
          ∙ ap (λ m. flat_map live xs ++ m)
          (flat_map-filter (λ b. b.some) live blocks
          (λ k d inside. λ none. IsFar-none _ (children k d inside).far none)) in
          let right : flat_map live xs ++ live block ≡ flat_map live (xs ++ block ∷ []) =
          ap (λ m. flat_map live xs ++ m) (sym (append-nil (live block))) ∙ sym (flat_map-append live xs (block ∷ [])) in
          subst (λ m. Permuted m (flat_map live (xs ++ block ∷ []))) (sym left)
          (subst (λ m. Permuted (flat_map live xs ++ flat_map live blocks) m) right (Permuted-append_right (flat_map live xs) same))

      pub work-opened : (block : Block) → work_of_all n blocks + 1 ≡ work_of n block → work_of_all n (xs ++ some) + 1 ≤ work_of_all n (xs ++ block ∷ [])
      work-opened block whole =
          omega (
            arith,
            sum_by-append (work_of n) xs some,
            sum_by-append (work_of n) xs (block ∷ []),
            sum_by-cons (work_of n) block [],
            sum_by-filter-le (λ b. b.some) (work_of n) blocks,
            whole,
          )

-- a block made of a node's box
pub child_is : (part : Contents Point) (order : List ℕ) (q : Near) (depth n l place c : ℕ) (areas : List Area) (b : Block)
    → IsNode part order l place areas → length areas ≡ 4 → c < 4 → b.level ≡ l → b.place ≡ 4 * place + c → (b.some ≡ true → (4 * place + c) * span l < n)
    → ((area : Area) (spot : Spot) → slice_get areas c ≡ Some area → Has area spot → (4 * place + c) * span l < n
    → (b.some ≡ true) × (least b.dist ≤ apart (spot_asked q) spot)) → length order ≡ n → 4 * place + 3 < 4 ^ (depth - l) → IsChild part order q depth n l b
child_is part order q depth n l place c areas b node four small level there reached far long few =
    let from : start_of b ≡ (4 * place + c) * span l = ap (λ m. m * span b.level) there ∙ ap (λ m. (4 * place + c) * span m) level in
    ⊎_elim
    (λ (area, inside, at, read).
    record {
      level = level;
      place = omega (arith, there, few, small);
      within = λ some. omega (arith, from, reached some);
      far = IsFar-of part order q area b l (4 * place + c) level there (node.each c area at).holds (λ spot has below. far area spot at has (omega (arith, below, long)));
    })
    (λ (past, none). absurd (omega arith))
    (slice_get_cases areas c).1

pub live_in-child : (part : Contents Point) (order : List ℕ) (b : Block) (l place : ℕ) → b.level ≡ l → b.place ≡ place
    → live_in_block part order b ≡ live_in part order (place * span l) ((place + 1) * span l)
live_in-child part order b l place level there =
    let from : start_of b ≡ place * span l = ap (λ m. m * span b.level) there ∙ ap (λ m. place * span m) level in
    let to : end_of b ≡ (place + 1) * span l = ap (λ m. (m + 1) * span b.level) there ∙ ap (λ m. (place + 1) * span m) level in
    ap₂ (live_in part order) from to

pub work-child : (n : ℕ) (b : Block) (l place : ℕ) → b.level ≡ l → b.place ≡ place → work_of n b ≡ work n l (place * span l)
work-child n b l place level there =
    let from : start_of b ≡ place * span l = ap (λ m. m * span b.level) there ∙ ap (λ m. place * span m) level in
    ap (λ m. work n m (start_of b)) level ∙ ap (work n l) from

-- the live points of a block are those of its four
pub live_in-quarters : (part : Contents Point) (order : List ℕ) (l place : ℕ)
    → live_in part order (4 * place * span l) ((4 * place + 1) * span l) ++ (live_in part order ((4 * place + 1) * span l) ((4 * place + 1 + 1) * span l)
    ++ (live_in part order ((4 * place + 2) * span l) ((4 * place + 2 + 1) * span l) ++ (live_in part order ((4 * place + 3) * span l) ((4 * place + 3 + 1) * span l) ++ [])))
    ≡ live_in part order (place * span (l + 1)) ((place + 1) * span (l + 1))
live_in-quarters part order l place =
    let s = span l in
    let more = span_more l in
    let first : 4 * place * s ≡ place * span (l + 1) = omega (arith, ap (λ m. place * m) more) in
    let last : (4 * place + 3 + 1) * s ≡ (place + 1) * span (l + 1) = omega (arith, ap (λ m. (place + 1) * m) more) in
    let second : (4 * place + 1 + 1) * s ≡ (4 * place + 2) * s = omega arith in
    let third : (4 * place + 2 + 1) * s ≡ (4 * place + 3) * s = omega arith in
    let a = 4 * place * s in
    let b = (4 * place + 1) * s in
    let d = (4 * place + 2) * s in
    let e = (4 * place + 3) * s in
    let z = (4 * place + 3 + 1) * s in
    ap (λ m. live_in part order a b ++ (live_in part order b m ++ (live_in part order d ((4 * place + 2 + 1) * s) ++ (live_in part order e z ++ [])))) second
    ∙ ap (λ m. live_in part order a b ++ (live_in part order b d ++ (live_in part order d m ++ (live_in part order e z ++ [])))) third
    ∙ ap (λ m. live_in part order a b ++ (live_in part order b d ++ (live_in part order d e ++ m))) (append-nil (live_in part order e z))
    ∙ ap (λ m. live_in part order a b ++ (live_in part order b d ++ m)) (sym (live_in-split part order d e z (omega arith) (omega arith)))
    ∙ ap (λ m. live_in part order a b ++ m) (sym (live_in-split part order b d z (omega arith) (omega arith)))
    ∙ sym (live_in-split part order a b z (omega arith) (omega arith))
    ∙ ap₂ (live_in part order) first last

-- what four blocks of a node are together
module _ (part : Contents Point) (order : List ℕ) (n l place : ℕ) (a b e f block : Block) (up : block.level ≡ l + 1) (here : block.place ≡ place)
    (la : a.level ≡ l) (lb : b.level ≡ l) (le : e.level ≡ l) (lf : f.level ≡ l)
    (pa : a.place ≡ 4 * place) (pb : b.place ≡ 4 * place + 1) (pe : e.place ≡ 4 * place + 2) (pf : f.place ≡ 4 * place + 3) where
  pub live-four : flat_map (live_in_block part order) (a ∷ b ∷ e ∷ f ∷ []) ≡ live_in_block part order block
  live-four =
      let live = live_in_block part order in
      ap (λ m. m ++ (live b ++ (live e ++ (live f ++ [])))) (live_in-child part order a l (4 * place) la pa)
      ∙ ap (λ m. live_in part order (4 * place * span l) ((4 * place + 1) * span l) ++ (m ++ (live e ++ (live f ++ [])))) (live_in-child part order b l (4 * place + 1) lb pb)
      ∙ ap
      (λ m. live_in part order (4 * place * span l) ((4 * place + 1) * span l)
      ++ (live_in part order ((4 * place + 1) * span l) ((4 * place + 1 + 1) * span l) ++ (m ++ (live f ++ []))))
      (live_in-child part order e l (4 * place + 2) le pe)
      ∙ ap
      (λ m. live_in part order (4 * place * span l) ((4 * place + 1) * span l)
      ++ (live_in part order ((4 * place + 1) * span l) ((4 * place + 1 + 1) * span l)
      ++ (live_in part order ((4 * place + 2) * span l) ((4 * place + 2 + 1) * span l) ++ (m ++ []))))
      (live_in-child part order f l (4 * place + 3) lf pf)
      ∙ live_in-quarters part order l place ∙ sym (live_in-child part order block (l + 1) place up here)

  pub work-four : start_of block < n → sum_by (work_of n) (a ∷ b ∷ e ∷ f ∷ []) + 1 ≡ work_of n block
  work-four below =
      let from : start_of block ≡ place * span (l + 1) = ap (λ m. m * span block.level) here ∙ ap (λ m. place * span m) up in
      omega (
        arith,
        sum_by-cons (work_of n) a (b ∷ e ∷ f ∷ []),
        sum_by-cons (work_of n) b (e ∷ f ∷ []),
        sum_by-cons (work_of n) e (f ∷ []),
        sum_by-cons (work_of n) f [],
        work-child n a l (4 * place) la pa,
        work-child n b l (4 * place + 1) lb pb,
        work-child n e l (4 * place + 2) le pe,
        work-child n f l (4 * place + 3) lf pf,
        work-child n block (l + 1) place up here,
        work-node n l place (omega (arith, from, below)),
      )

-- blocks that are left out change nothing
module _ (part : Contents Point) (order : List ℕ) (q : Near) (k : ℕ) (kept : List Found) (few : IsFirstFew nearer_le k kept) where
  pub left_one : (b : Block) → IsFar part order q b → IsLeftOut k kept b → Takes k kept (founds q (live_in_block part order b)) kept
  left_one b far out =
      ⊎_elim
      (λ none. subst (λ (l : List Point). Takes k kept (founds q l) kept) (sym (IsFar-none part order q b far none)) (Takes-none k kept few))
      (λ (worst, at, less).
      Takes-worse k kept (founds q (live_in_block part order b)) worst few at
      (All-map (λ f. nearer_le worst f ≡ true) (found_at q.x q.y) (live_in_block part order b)
      (All-live part order (λ p. nearer_le worst (found_at q.x q.y p) ≡ true) (start_of b) (end_of b)
      (λ position place p low high stands item flag.
      no_nearer worst (found_at q.x q.y p) (least b.dist) less (far.each position place p low high stands item flag).1)
      (omega arith))))
      out

  pub left_out : (blocks : List Block) → All (IsFar part order q) blocks → All (IsLeftOut k kept) blocks
      → Takes k kept (founds q (flat_map (live_in_block part order) blocks)) kept
  left_out [] far out = Takes-none k kept few
  left_out (b ∷ bs) far out =
      let live = live_in_block part order in
      subst (λ (l : List Found). Takes k kept l kept) (sym (map-append (found_at q.x q.y) (live b) (flat_map live bs)))
      (Takes-then k kept kept kept (founds q (live b)) (founds q (flat_map live bs))
      (left_one b (All-head (IsFar part order q) b bs far) (All-head (IsLeftOut k kept) b bs out))
      (left_out bs (All-tail (IsFar part order q) b bs far) (All-tail (IsLeftOut k kept) b bs out)))
