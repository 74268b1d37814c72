-- The winners of blocks of places.
use Rattle.std.proofs.Common.{◌≡◌, ◌≢◌, ℕ, zero, suc, ◌+◌, ◌-◌, ◌*◌, ◌/◌, ◌%◌, ◌^◌, ◌<◌, ◌≤◌, inl, inr, max, Option, None, Some, List, [], ◌∷◌, ◌&&◌, cond, if◌then◌else◌, nat_le, slice_range, add-zero, IsTrue, ◌↔◌, length, get_or, true, false, Bool, refl, sym, ap, subst, ◌∙◌, arith, mod-lt, length-set, get_or-set_other}
use Rattle.std.proofs.lemmas.Nat.{pow_pos, shr-shr, div-add-mod'}
use Rattle.std.proofs.lemmas.List.{get_or_past, get_or-take, get_or-drop, length-take, length-drop}
use Rattle.std.specs.List.{position_from, position_or_len}
use Rattle.std.proofs.lemmas.List.Sums.{fails_before_first, passes_at_first}
use Rattle.std.proofs.lemmas.Bool.Decides.{nat_tests}
use Rattle.std.proofs.lemmas.Bool.{cases_lt, cases_eq, cases_order}
use Rattle.std.proofs.Math.Nat.{mul-le-mul_right}
use Rattle.weak_delete.specs.declared.place.Place.{Place}
use Rattle.weak_delete.specs.Places.{place_at, no_place, cleared, is_live_at_least}
use Rattle.row_blocks.specs.Blocks.{height_at, IsMultiple}
use Rattle.weak_delete.specs.Tournament.{rank_of, rank_at, winner_rank, IsBelowBound, IsGreatest, IsWinnerAt, AreWinnersBelow, IsPlayed}
use Rattle.row_blocks.proofs.Blocks.{IsHalved, pow_next, pow_height_at-le, height_at-middle, middle_of, times_below, below_from_pow}

pub rank_at-past : (places : List Place) (k : ℕ) → length places ≤ k → rank_at places k ≡ 0
rank_at-past places k past = ap rank_of (get_or_past places k no_place past)

-- a block that has only places before a smaller one
pub IsGreatest-past : {places : List Place} {start end rank : ℕ} (longer : ℕ) → IsGreatest places start end rank → length places ≤ end → end ≤ longer → IsGreatest places start longer rank
IsGreatest-past {places} {start} {end} {rank} longer greatest past more = record {
  bound = λ k after before. elim (cases_lt k end) [
    | inl inside ↦ greatest.bound k after inside
    | inr beyond ↦ omega (arith, rank_at-past places k (omega arith))
  ];
  least = λ m below. greatest.least m (λ k after before. below k after (omega arith));
}

pub IsGreatest-both : {places : List Place} {start middle end : ℕ} (first second : ℕ) → start ≤ middle → middle ≤ end → IsGreatest places start middle first → IsGreatest places middle end second
    → IsGreatest places start end (max first second)
IsGreatest-both {places} {start} {middle} {end} first second low high of_first of_second = record {
  bound = λ k after before. elim (cases_lt k middle) [
    | inl inside ↦ omega (arith, of_first.bound k after inside)
    | inr beyond ↦ omega (arith, of_second.bound k beyond before)
  ];
  least = λ m below. omega (arith, of_first.least m (λ k after before. below k after (omega arith)), of_second.least m (λ k after before. below k (omega arith) before));
}

pub IsGreatest-one : (places : List Place) (start : ℕ) → IsGreatest places start (start + 1) (rank_at places start)
IsGreatest-one places start = record {
  bound = λ k after before. let same : k ≡ start = omega arith in omega (arith, ap (rank_at places) same);
  least = λ m below. below start (omega arith) (omega arith);
}

-- the middle of a block is at the height below it, and its winner is the block's
pub IsWinnerAt-block : {places : List Place} (winners : List (Option ℕ)) {start height half : ℕ} → IsHalved start height half → IsWinnerAt places winners (start + half)
    → IsGreatest places start (start + 2 ^ height) (winner_rank (get_or winners (start + half) None))
IsWinnerAt-block {places} winners {start} {height} {half} block wins =
    let from : start + half - 2 ^ height_at (start + half) ≡ start = omega (arith, block.own) in
    let until : start + half + 2 ^ height_at (start + half) ≡ start + 2 ^ height = omega (arith, block.own, block.twice) in
    let P : ℕ → Type 0 = λ s. IsGreatest places s (start + half + 2 ^ height_at (start + half)) (winner_rank (get_or winners (start + half) None)) in
    let Q : ℕ → Type 0 = λ e. IsGreatest places start e (winner_rank (get_or winners (start + half) None)) in
    subst Q until (subst P from wins)

pub IsWinnerAt-from_block : {places : List Place} (winners : List (Option ℕ)) {start height half : ℕ} → IsHalved start height half
    → IsGreatest places start (start + 2 ^ height) (winner_rank (get_or winners (start + half) None)) → IsWinnerAt places winners (start + half)
IsWinnerAt-from_block {places} winners {start} {height} {half} block greatest =
    let from : start + half - 2 ^ height_at (start + half) ≡ start = omega (arith, block.own) in
    let until : start + half + 2 ^ height_at (start + half) ≡ start + 2 ^ height = omega (arith, block.own, block.twice) in
    let P : ℕ → Type 0 = λ s. IsGreatest places s (start + half + 2 ^ height_at (start + half)) (winner_rank (get_or winners (start + half) None)) in
    let Q : ℕ → Type 0 = λ e. IsGreatest places start e (winner_rank (get_or winners (start + half) None)) in
    subst P (sym from) (subst Q (sym until) greatest)

-- ---- played height by height
abbrev pub SameBut : List (Option ℕ) → List (Option ℕ) → ℕ → Type 0
SameBut winners changed middle = (k : ℕ) → k ≢ middle → get_or changed k None ≡ get_or winners k None

-- a winner that didn't change
kept : {places : List Place} (winners changed : List (Option ℕ)) (k middle : ℕ) → SameBut winners changed middle → k ≢ middle → IsWinnerAt places winners k → IsWinnerAt places changed k
kept {places} winners changed k middle same away wins =
    let P : Option ℕ → Type 0 = λ w. IsGreatest places (k - 2 ^ height_at k) (k + 2 ^ height_at k) (winner_rank w) in
    subst P (sym (same k away)) wins

-- the winner at one middle is right, and those at other middles of its height that were right still are
replaced : {places : List Place} (winners changed : List (Option ℕ)) (k middle : ℕ) → SameBut winners changed middle → IsWinnerAt places changed middle → (k ≢ middle → IsWinnerAt places winners k)
    → IsWinnerAt places changed k
replaced {places} winners changed k middle same wins others = elim (cases_eq k middle) [
  | inl here ↦ subst (IsWinnerAt places changed) (sym here) wins
  | inr away ↦ kept winners changed k middle same away (others away)
]

-- of the middles of one height the next to play is the first that isn't played
module _ {places : List Place} {winners : List (Option ℕ)} (changed : List (Option ℕ)) {height left : ℕ} (played : IsPlayed places winners height left) (some : 0 < left)
    (few : length places ≤ 2 ^ 31) (middle : ℕ) (next : middle ≡ (2 * ((length places - 1) / 2 ^ height - left) + 1) * 2 ^ height) (at : height_at middle ≡ height)
    (same : SameBut winners changed middle) (wins : IsWinnerAt places changed middle) where
  below_still : AreWinnersBelow places changed height
  below_still = record {
    wins = λ k pos within lower.
        let away : k ≢ middle = λ is. let e : height_at k ≡ height = ap height_at is ∙ at in omega arith in
        kept winners changed k middle same away (played.below.wins k pos within lower);
  }

  -- one more middle of the height is played
  here_next : (k times : ℕ) → 0 < k → k < length places → height_at k ≡ height → k ≡ (2 * times + 1) * 2 ^ height → times ≤ (length places - 1) / 2 ^ height - left → IsWinnerAt places changed k
  here_next k times pos within is_here is few_times = replaced winners changed k middle same wins (λ away.
      let other : times ≢ (length places - 1) / 2 ^ height - left = λ e. away (is ∙ ap (λ t. (2 * t + 1) * 2 ^ height) e ∙ sym next) in
      let lower : 2 * times + 1 + 1 ≤ 2 * ((length places - 1) / 2 ^ height - left) + 1 = omega arith in
      let le : (2 * times + 1 + 1) * 2 ^ height ≤ (2 * ((length places - 1) / 2 ^ height - left) + 1) * 2 ^ height = mul-le-mul_right (2 ^ height) lower in
      let some_places = pow_pos height in
      played.here k pos within is_here (omega arith))

  pub IsPlayed-same_height : left - 1 ≢ (length places - 1) / 2 ^ height / 2 → IsPlayed places changed height (left - 1)
  IsPlayed-same_height more = record {
    blocks_left = omega (arith, played.blocks_left);
    some_left = λ h. omega (arith, played.some_left some);
    none_left = λ h. let no : ⊥ = omega (arith, played.some_left some, played.blocks_left) in absurd no;
    small = played.small;
    below = below_still;
    here = λ k pos within is_here before.
        let whole = middle_of k pos (omega arith) in
        let is : k ≡ (2 * whole.times + 1) * 2 ^ height = whole.is ∙ ap (λ i. (2 * whole.times + 1) * 2 ^ i) is_here in
        let lower = times_below (2 * whole.times + 1) (2 * ((length places - 1) / 2 ^ height - (left - 1)) + 1) (2 ^ height) (omega arith) in
        here_next k whole.times pos within is_here is (omega (arith, played.blocks_left));
  }

  pub IsPlayed-next_height : left - 1 ≡ (length places - 1) / 2 ^ height / 2 → IsPlayed places changed (height + 1) (left - 1)
  IsPlayed-next_height half =
      let blocks : (length places - 1) / 2 ^ (height + 1) ≡ (length places - 1) / 2 ^ height / 2 = sym (shr-shr (length places - 1) height 1) in
      let some_places = pow_pos height in
      let whole : (length places - 1) / 2 ^ height * 2 ^ height + (length places - 1) % 2 ^ height ≡ length places - 1 = div-add-mod' (length places - 1) (2 ^ height) in
      record {
        blocks_left = omega arith;
        some_left = λ h. omega arith;
        none_left = λ h. omega arith;
        small =
            let one : 1 * 2 ^ height ≤ (length places - 1) / 2 ^ height * 2 ^ height = mul-le-mul_right (2 ^ height) (omega (arith, played.blocks_left)) in
            let low = below_from_pow height 31 (omega arith) in omega arith;
        below = record {
          wins = λ k pos within lower. elim (cases_lt (height_at k) height) [
            | inl low ↦ below_still.wins k pos within low
            | inr high ↦
                let is_here : height_at k ≡ height = omega arith in
                let whole_k = middle_of k pos (omega arith) in
                let is : k ≡ (2 * whole_k.times + 1) * 2 ^ height = whole_k.is ∙ ap (λ i. (2 * whole_k.times + 1) * 2 ^ i) is_here in
                let rest : (length places - 1) % 2 ^ height < 2 ^ height = mod-lt (length places - 1) some_places in
                let blocks_k : (2 * whole_k.times + 1) * 2 ^ height < ((length places - 1) / 2 ^ height + 1) * 2 ^ height = omega arith in
                let times = times_below (2 * whole_k.times + 1) ((length places - 1) / 2 ^ height + 1) (2 ^ height) blocks_k in
                here_next k whole_k.times pos within is_here is (omega (arith, played.blocks_left))
          ];
        };
        here = λ k pos within is_here before.
            let low = pow_height_at-le k pos (omega arith) in
            let none : (length places - 1) / 2 ^ (height + 1) - (left - 1) ≡ 0 = omega arith in
            let first : (2 * ((length places - 1) / 2 ^ (height + 1) - (left - 1)) + 1) * 2 ^ (height + 1) ≡ 2 ^ (height + 1) = ap (λ n. (2 * n + 1) * 2 ^ (height + 1)) none ∙ omega arith in
            let no : ⊥ = omega (arith, ap (λ i. 2 ^ i) is_here) in absurd no;
      }

-- all winners stand when no turn is left
pub IsPlayed-all : {places : List Place} {winners : List (Option ℕ)} {height left : ℕ} → IsPlayed places winners height left → left ≡ 0 → length places ≤ 2 ^ 31
    → (middle : ℕ) → 0 < middle → middle < length places → IsWinnerAt places winners middle
IsPlayed-all {places} {winners} {height} {left} played none few middle pos within =
    let some_places = pow_pos height in
    let whole : (length places - 1) / 2 ^ height * 2 ^ height + (length places - 1) % 2 ^ height ≡ length places - 1 = div-add-mod' (length places - 1) (2 ^ height) in
    let rest : (length places - 1) % 2 ^ height < 2 ^ height = mod-lt (length places - 1) some_places in
    let product : (length places - 1) / 2 ^ height * 2 ^ height ≡ 0 = ap (λ n. n * 2 ^ height) (played.none_left none) ∙ omega arith in
    played.below.wins middle pos within (below_from_pow _ _ (omega (arith, pow_height_at-le middle pos (omega arith))))

-- ---- a place taken out
pub rank_at-cleared : (places : List Place) (k i : ℕ) → i ≢ k → rank_at (cleared places k) i ≡ rank_at places i
rank_at-cleared places k i away = ap rank_of (get_or-set_other places k i (record (place_at places k) { live = false }) no_place away)

IsGreatest-cleared : (places : List Place) (k start end rank : ℕ) → ((i : ℕ) → start ≤ i → i < end → i ≢ k) → IsGreatest places start end rank → IsGreatest (cleared places k) start end rank
IsGreatest-cleared places k start end rank away greatest = record {
  bound = λ i after before. omega (arith, rank_at-cleared places k i (away i after before), greatest.bound i after before);
  least = λ m below. greatest.least m (λ i after before. omega (arith, rank_at-cleared places k i (away i after before), below i after before));
}

-- on the way up from the place k: the winners of the small blocks round it are found anew, and those of blocks beside it stand
pub record IsRepaired (places : List Place) (k : ℕ) (winners : List (Option ℕ)) (height : ℕ) : Type 0 where
  pub below : AreWinnersBelow places winners height
  pub before : (middle : ℕ) → 0 < middle → middle < length places → middle + 2 ^ height_at middle ≤ k → IsWinnerAt places winners middle
  pub after : (middle : ℕ) → 0 < middle → middle < length places → k + 2 ^ height_at middle < middle → IsWinnerAt places winners middle

pub IsRepaired-begin : {places : List Place} {winners : List (Option ℕ)} (k : ℕ) → ((middle : ℕ) → 0 < middle → middle < length places → IsWinnerAt places winners middle)
    → IsRepaired (cleared places k) k winners 0
IsRepaired-begin {places} {winners} k all =
    let long : length (cleared places k) ≡ length places = length-set places k (record (place_at places k) { live = false }) in
    record {
      below = record { wins = λ middle pos within lower. let no : ⊥ = omega arith in absurd no };
      before = λ middle pos within until. IsGreatest-cleared places k _ _ _ (λ i after before. omega arith) (all middle pos (omega arith));
      after = λ middle pos within from. IsGreatest-cleared places k _ _ _ (λ i after before. omega arith) (all middle pos (omega arith));
    }

-- one height up
IsRepaired-step : {places : List Place} {k : ℕ} {winners : List (Option ℕ)} {height : ℕ} (changed : List (Option ℕ)) (start : ℕ) → IsRepaired places k winners height → IsMultiple start (height + 1)
    → start ≤ k → k < start + 2 ^ (height + 1) → length places ≤ 2 ^ 31
    → ((middle : ℕ) → middle < length places → (middle ≢ start + 2 ^ height → IsWinnerAt places winners middle) → IsWinnerAt places changed middle)
    → (height_at (start + 2 ^ height) ≡ height) → IsRepaired places k changed (height + 1)
IsRepaired-step {places} {k} {winners} {height} changed start repaired multiple from until few each at = record {
  below = record {
    wins = λ middle pos within lower. each middle within (λ away. elim (cases_lt (height_at middle) height) [
      | inl low ↦ repaired.below.wins middle pos within low
      | inr high ↦ beside middle pos within (omega arith) away
    ]);
  };
  before = λ middle pos within h. each middle within (λ away. repaired.before middle pos within h);
  after = λ middle pos within h. each middle within (λ away. repaired.after middle pos within h);
}
  where
    beside : (middle : ℕ) → 0 < middle → middle < length places → height_at middle ≡ height → middle ≢ start + 2 ^ height → IsWinnerAt places winners middle
    beside middle pos within is_here away =
        let whole = middle_of middle pos (omega arith) in
        let is : middle ≡ (2 * whole.times + 1) * 2 ^ height = whole.is ∙ ap (λ i. (2 * whole.times + 1) * 2 ^ i) is_here in
        let start_is : start ≡ multiple.times * 2 ^ height * 2 = omega (arith, multiple.is, ap (λ x. multiple.times * x) (pow_next height)) in
        let length_here : 2 ^ height_at middle ≡ 2 ^ height = ap (λ i. 2 ^ i) is_here in
        elim (cases_order whole.times multiple.times) [
          | inl same ↦ let no : ⊥ = away (omega (arith, is, start_is, ap (λ t. t * 2 ^ height) same)) in absurd no
          | inr differs ↦ elim differs [
            | inl low ↦
                let le : (whole.times + 1) * 2 ^ height ≤ multiple.times * 2 ^ height = mul-le-mul_right (2 ^ height) (omega arith) in
                repaired.before middle pos within (omega (arith, is, start_is, length_here))
            | inr high ↦
                let le : (multiple.times + 1) * 2 ^ height ≤ whole.times * 2 ^ height = mul-le-mul_right (2 ^ height) (omega arith) in
                repaired.after middle pos within (omega (arith, is, start_is, length_here, pow_next height))
          ]
        ]

pub IsRepaired-play : {places : List Place} {k : ℕ} {winners : List (Option ℕ)} {height : ℕ} (changed : List (Option ℕ)) (start : ℕ) → IsRepaired places k winners height → IsMultiple start (height + 1)
    → start ≤ k → k < start + 2 ^ (height + 1) → length places ≤ 2 ^ 31 → height < 64 → SameBut winners changed (start + 2 ^ height) → IsWinnerAt places changed (start + 2 ^ height)
    → IsRepaired places k changed (height + 1)
IsRepaired-play {places} {k} {winners} {height} changed start repaired multiple from until few small same wins =
    IsRepaired-step changed start repaired multiple from until few (λ middle within others. replaced winners changed middle (start + 2 ^ height) same wins others) (height_at-middle start height multiple small)

pub IsRepaired-skip : {places : List Place} {k : ℕ} {winners : List (Option ℕ)} {height : ℕ} (start : ℕ) → IsRepaired places k winners height → IsMultiple start (height + 1)
    → start ≤ k → k < start + 2 ^ (height + 1) → length places ≤ 2 ^ 31 → height < 64 → length places ≤ start + 2 ^ height → IsRepaired places k winners (height + 1)
IsRepaired-skip {places} {k} {winners} {height} start repaired multiple from until few small past =
    IsRepaired-step winners start repaired multiple from until few (λ middle within others. others (omega arith)) (height_at-middle start height multiple small)

pub IsRepaired-all : {places : List Place} {k : ℕ} {winners : List (Option ℕ)} {height : ℕ} → IsRepaired places k winners height → length places < 2 ^ height → length places ≤ 2 ^ 31
    → (middle : ℕ) → 0 < middle → middle < length places → IsWinnerAt places winners middle
IsRepaired-all repaired short few middle pos within =
    repaired.below.wins middle pos within (below_from_pow _ _ (omega (arith, pow_height_at-le middle pos (omega arith))))

-- the same tournament with all winners found
pub IsPlayed-again : {places seen : List Place} {winners changed : List (Option ℕ)} {height left : ℕ} → IsPlayed places winners height left → length seen ≡ length places
    → ((middle : ℕ) → 0 < middle → middle < length seen → IsWinnerAt seen changed middle) → IsPlayed seen changed height left
IsPlayed-again {places} {seen} {winners} {changed} {height} {left} played long all =
    let blocks : (length seen - 1) / 2 ^ height ≡ (length places - 1) / 2 ^ height = ap (λ n. (n - 1) / 2 ^ height) long in
    record {
      blocks_left = omega (arith, played.blocks_left);
      some_left = λ h. omega (arith, played.some_left h);
      none_left = λ h. blocks ∙ played.none_left h;
      small = played.small;
      below = record { wins = λ middle pos within lower. all middle pos within };
      here = λ middle pos within is_here before. all middle pos within;
    }

-- ---- the first place that reaches a bound
reached : (bound amount : ℕ) (live : Bool) → bound < (if live then amount + 1 else 0) → (live && nat_le bound amount) ≡ true
reached bound amount true h = grind (arith, nat_tests)
reached bound amount false h = let no : ⊥ = omega arith in absurd no

missed : (bound amount : ℕ) (live : Bool) → (if live then amount + 1 else 0) ≤ bound → (live && nat_le bound amount) ≡ false
missed bound amount true h = grind (arith, nat_tests)
missed bound amount false h = refl

position_from-is : {X : Type 0} (p : X → Bool) (from n : ℕ) (xs : List X) (d : X) → n < length xs → ((j : ℕ) → j < n → p (get_or xs j d) ≡ false) → p (get_or xs n d) ≡ true
    → Some (from + n) ≡ position_from p from xs
position_from-is p from n [] d within before here = let no : ⊥ = omega arith in absurd no
position_from-is p from zero (x ∷ xs) d within before here = sym (ap (λ b. cond b (Some from) (position_from p (from + 1) xs)) here ∙ ap Some (sym (add-zero from)))
position_from-is p from (suc n) (x ∷ xs) d within before here =
    let rest = position_from-is p (from + 1) n xs d (omega arith) (λ j h. before (suc j) (omega arith)) here in
    let moved : from + suc n ≡ from + 1 + n = omega arith in
    ap Some moved ∙ rest ∙ sym (ap (λ b. cond b (Some from) (position_from p (from + 1) xs)) (before zero (omega arith)))

position_from-none : {X : Type 0} (p : X → Bool) (from : ℕ) (xs : List X) (d : X) → ((j : ℕ) → j < length xs → p (get_or xs j d) ≡ false) → None ≡ position_from p from xs
position_from-none p from [] d all = refl
position_from-none p from (x ∷ xs) d all =
    position_from-none p (from + 1) xs d (λ j h. all (suc j) (omega arith)) ∙ sym (ap (λ b. cond b (Some from) (position_from p (from + 1) xs)) (all zero (omega arith)))

module _ (places : List Place) (from to bound : ℕ) (order : from ≤ to) (within : to ≤ length places) where
  long_range : length (slice_range places from to) ≡ to - from
  long_range = simp (length-take, length-drop) (omega arith)

  in_range : (j : ℕ) → j < to - from → get_or (slice_range places from to) j no_place ≡ place_at places (from + j)
  in_range j h = rw (get_or-take, get_or-drop)

  pub first_reaching : (k : ℕ) → from ≤ k → k < to → IsBelowBound places from k bound → bound < rank_at places k → Some k ≡ position_from (is_live_at_least bound) from (slice_range places from to)
  first_reaching k after before below above =
      let place : from + (k - from) ≡ k = omega arith in
      ap Some (sym place) ∙ position_from-is (is_live_at_least bound) from (k - from) (slice_range places from to) no_place (omega (arith, long_range))
      (λ j h. ap (is_live_at_least bound) (in_range j (omega arith)) ∙ missed bound _ _ (below (from + j) (omega arith) (omega arith)))
      (ap (is_live_at_least bound) (in_range (k - from) (omega arith)) ∙ reached bound _ _ (let P : ℕ → Type 0 = λ i. bound < rank_at places i in subst P (sym place) above))

  pub none_reaching : IsBelowBound places from to bound → None ≡ position_from (is_live_at_least bound) from (slice_range places from to)
  none_reaching below = position_from-none (is_live_at_least bound) from (slice_range places from to) no_place
      (λ j h. let inside : j < to - from = omega (arith, long_range) in ap (is_live_at_least bound) (in_range j inside) ∙ missed bound _ _ (below (from + j) (omega arith) (omega arith)))

-- what a test says of a winner
pub reached_from : {b : Bool} {bound rank : ℕ} → (IsTrue b ↔ (bound < rank)) → b ≡ true → bound < rank
reached_from test is = test.0 is

pub missed_from : {b : Bool} {bound rank : ℕ} → (IsTrue b ↔ (bound < rank)) → b ≡ false → rank ≤ bound
missed_from {b} {bound} {rank} test is = elim (cases_lt bound rank) [
  | inl above ↦ let yes : b ≡ true = test.1 above in absurd (cc (yes, is))
  | inr below ↦ below
]

-- where some place of a range stands above a bound, the range begins at a place
pub inside_places : (places : List Place) (start end bound : ℕ) → (IsBelowBound places start end bound → ⊥) → start < length places
inside_places places start end bound some = elim (cases_lt start (length places)) [
  | inl within ↦ within
  | inr past ↦ absurd (some (λ k after before. omega (arith, rank_at-past places k (omega arith))))
]

-- ---- what callers learn from the clause of the search
position_from-found : {X : Type 0} (p : X → Bool) (from : ℕ) (xs : List X) (d : X) (k : ℕ) → Some k ≡ position_from p from xs
    → (position_or_len p xs < length xs) × (k ≡ from + position_or_len p xs)
position_from-found p from xs d k found = elim (cases_lt (position_or_len p xs) (length xs)) [
  | inl within ↦
      let is = position_from-is p from (position_or_len p xs) xs d within (λ j h. fails_before_first p xs j d h) (passes_at_first p xs d within) in
      (within, cc (found, is))
  | inr past ↦
      let none = position_from-none p from xs d (λ j h. fails_before_first p xs j d (omega arith)) in
      absurd (cc (found, none))
]

module _ (places : List Place) (from to bound : ℕ) (order : from ≤ to) (within : to ≤ length places) where
  -- the place that was found is in the range, is live and reaches the bound, and no place before it is and does
  pub next_found : (k : ℕ) → Some k ≡ position_from (is_live_at_least bound) from (slice_range places from to)
      → (from ≤ k) × (k < to) × (is_live_at_least bound (place_at places k) ≡ true) × ((i : ℕ) → from ≤ i → i < k → is_live_at_least bound (place_at places i) ≡ false)
  next_found k found =
      let test = is_live_at_least bound in
      let range = slice_range places from to in
      let first = position_from-found test from range no_place k found in
      let long = long_range places from to bound order within in
      let inside : position_or_len test range < to - from = omega (arith, first.0) in
      let at = in_range places from to bound order within (position_or_len test range) inside in
      let here : place_at places (from + position_or_len test range) ≡ place_at places k = ap (place_at places) (sym first.1) in (
        omega (arith, first.1),
        omega (arith, first.1),
        ap test (sym here ∙ sym at) ∙ passes_at_first test range no_place first.0,
        λ i after before.
            let place : from + (i - from) ≡ i = omega arith in
            let low : i - from < position_or_len test range = omega (arith, first.1) in
            ap test (sym (ap (place_at places) place) ∙ sym (in_range places from to bound order within (i - from) (omega arith))) ∙ fails_before_first test range (i - from) no_place low,
      )
