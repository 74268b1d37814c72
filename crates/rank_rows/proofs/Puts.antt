-- One more place.
use Rattle.std.proofs.Common.{◌≡◌, ◌≢◌, ℕ, zero, suc, ◌+◌, ◌-◌, ◌*◌, ◌/◌, ◌%◌, ◌^◌, ◌<◌, ◌≤◌, ◌==◌, ◌⊎◌, inl, inr, List, [], ◌∷◌, ◌++◌, Bool, true, false, cond, length, length-append, min, All, refl, sym, ap, ap₂, subst, ◌∙◌, arith}
use Rattle.std.specs.Prelude.{slice_index_or}
use Rattle.std.proofs.lemmas.Bool.{cases_lt, cases_eq, eq-eqb, ne_eqb, eqb-true}
use Rattle.std.proofs.lemmas.Nat.{pow_pos}
use Rattle.std.proofs.lemmas.Nat.Bits.{bit_at-lt}
use Rattle.std.proofs.lemmas.List.{get_or_append_left, get_or_push, get_or_past}
use Rattle.std.proofs.lemmas.List.Elements.{All-get_or}
use Rattle.std.proofs.lemmas.List.FromFn.{length-map-range_with_len, get_or-map-range_with_len, map-range_with_len_more, fill_by_all}
use Rattle.row_blocks.specs.Blocks.{IsMultiple, start_of}
use Rattle.row_blocks.proofs.Partitioning.{start_of_is, start_of-le, start_of-above, start_of-multiple}
use Rattle.rank_rows.specs.declared.word.Word.{Word}
use Rattle.rank_rows.specs.declared.word.Dead.{Dead}
use Rattle.rank_rows.specs.declared.store.Store.{Store}
use Rattle.rank_rows.specs.declared.ranks.RankRows.TheInside.{Inside}
use Rattle.rank_rows.specs.declared.cursor.Cursor.{Cursor}
use Rattle.rank_rows.specs.Totals.{total}
use Rattle.rank_rows.specs.Words.{word_at, second_at, dead_at, weight_at, dead_before, weight_before}
use Rattle.rank_rows.specs.Putting.{IsPut}
use Rattle.rank_rows.specs.Cursors.{next_of, target_of}
use Rattle.rank_rows.specs.Ranked.{Ranked, seconds, lives, AreRanks, AreWeighed, AreTrees, IsFresh, IsKept, IsNextRow, with_place, next_place, rank, block_height, word_of}
use Rattle.rank_rows.proofs.Sums.{total-none, total-more, total-same, total-most}
use Rattle.rank_rows.proofs.Lists.{how_many-ones}
use Rattle.rank_rows.proofs.Trees.{AreNodes-fresh}
use Rattle.rank_rows.proofs.Reading.{seen, next_row, same_row, eights}

-- the next place is in the same block, or begins one
same_block : (height at : ℕ) → start_of height (at + 1) ≢ at + 1 → start_of height (at + 1) ≡ start_of height at
same_block height at other = elim (cases_lt (at + 1) (start_of height at + 2 ^ height)) [
  | inl below ↦ start_of_is (at + 1) (start_of-multiple height at) (omega (arith, start_of-le height at)) below
  | inr past ↦
      let m = start_of-multiple height at in
      let end : at + 1 ≡ start_of height at + 2 ^ height = omega (arith, past, start_of-above height at) in
      let next : IsMultiple (at + 1) height = record { times = m.times + 1; is = end ∙ ap (λ s. s + 2 ^ height) m.is ∙ (let e : m.times * 2 ^ height + 2 ^ height ≡ (m.times + 1) * 2 ^ height = grind arith in e) } in
      absurd (other (start_of_is (at + 1) next (omega arith) (omega (arith, pow_pos height))))
]

-- the three cases of the next place
module _ (second : Bool) (weight height stride : ℕ) (c : Cursor) where
  abbrev row_next : Cursor
  row_next = record { row = c.row + 1; at = 0; ones = 0; weight = 0 }

  abbrev block_next : Cursor
  block_next = record { row = c.row; at = c.at + 1; ones = 0; weight = 0 }

  abbrev place_next : Cursor
  place_next = record { row = c.row; at = c.at + 1; ones = c.ones + cond second 1 0; weight = c.weight + weight }

  next-row : c.at + 1 ≡ stride * 64 → next_of second weight height stride c ≡ row_next
  next-row is = ap (λ t. cond t row_next (cond (start_of height (c.at + 1) == c.at + 1) block_next place_next)) (eq-eqb (c.at + 1) (stride * 64) is)

  next-block : c.at + 1 ≢ stride * 64 → start_of height (c.at + 1) ≡ c.at + 1 → next_of second weight height stride c ≡ block_next
  next-block other is =
      ap (λ t. cond t row_next (cond (start_of height (c.at + 1) == c.at + 1) block_next place_next)) (ne_eqb (c.at + 1) (stride * 64) other)
      ∙ ap (λ t. cond t block_next place_next) (eq-eqb (start_of height (c.at + 1)) (c.at + 1) is)

  next-place : c.at + 1 ≢ stride * 64 → start_of height (c.at + 1) ≢ c.at + 1 → next_of second weight height stride c ≡ place_next
  next-place other apart =
      ap (λ t. cond t row_next (cond (start_of height (c.at + 1) == c.at + 1) block_next place_next)) (ne_eqb (c.at + 1) (stride * 64) other)
      ∙ ap (λ t. cond t block_next place_next) (ne_eqb (start_of height (c.at + 1)) (c.at + 1) apart)

-- a block of words where one of places begins
pub start_of-words : (height v : ℕ) → 6 ≤ height → start_of height (64 * v) ≡ 64 * start_of (height - 6) v
start_of-words height v high =
    let m = start_of-multiple (height - 6) v in
    let long : 2 ^ height ≡ 64 * 2 ^ (height - 6) = ap (λ h. 2 ^ h) (let e : height ≡ height - 6 + 6 = omega arith in e) ∙ eights (height - 6) in
    let block : IsMultiple (64 * start_of (height - 6) v) height = record {
      times = m.times;
      is = ap (λ n. 64 * n) m.is ∙ (let e : 64 * (m.times * 2 ^ (height - 6)) ≡ m.times * (64 * 2 ^ (height - 6)) = grind arith in e) ∙ ap (λ n. m.times * n) (sym long);
    } in
    start_of_is (64 * v) block (omega (arith, start_of-le (height - 6) v)) (omega (arith, start_of-above (height - 6) v, long))

-- where nothing died
dead_none : (words : List Word) → IsFresh words → (e : ℕ) → dead_before words e ≡ 0
dead_none words fresh e = zeros (64 * e)
  where
    zeros : (n : ℕ) → total (dead_at words) n ≡ 0
    zeros zero = total-none (dead_at words)
    zeros (suc n) = omega (arith, ap (total (dead_at words)) (let is : suc n ≡ n + 1 = omega arith in is), total-more (dead_at words) n, fresh n, zeros n)

AreTrees-fresh : (words : List Word) (weights : List ℕ) (stride height : ℕ) → IsFresh words → AreWeighed words weights stride height → AreTrees words weights stride height
AreTrees-fresh words weights stride height fresh weighed = record {
  each = λ q s block within there.
      AreNodes-fresh words (dead_before words) (weight_before weights) 0 (weight_before weights (word_of stride q s)) (word_of stride q s) (block_height height q)
      (min (word_of stride q stride) (length words)) (λ e from to inside. here q s e block from to inside);
  begins = λ q s block within there.
      (let own : start_of (block_height height q) s ≡ s = start_of_is s block (omega arith) (omega (arith, pow_pos (block_height height q))) in
      omega (arith, weighed.before q s within there, ap (λ b. weight_before weights (word_of stride q b)) own));
}
  where
    here : (q s e : ℕ) → IsMultiple s (block_height height q) → word_of stride q s ≤ e → e < word_of stride q s + 2 ^ block_height height q
        → e < min (word_of stride q stride) (length words)
        → ((word_at words e).died.count ≡ 0) × ((word_at words e).died.weight ≡ 0) × (dead_before words e ≡ 0)
        × ((word_at words e).weight + weight_before weights (word_of stride q s) ≡ weight_before weights e)
    here q s e block from to inside =
        let v = e - q * stride in
        let at : word_of stride q v ≡ e = omega (arith, from) in
        let own : start_of (block_height height q) v ≡ s = start_of_is v block (omega (arith, from)) (omega (arith, from, to)) in
        let before = weighed.before q v (omega (arith, from, inside)) (omega (arith, at, inside)) in (
          weighed.count e (omega (arith, inside)),
          weighed.weight e (omega (arith, inside)),
          dead_none words fresh e,
          omega (
            arith,
            before,
            ap (λ b. weight_before weights (word_of stride q b)) own,
            ap (λ d. (word_at words d).weight) at,
            ap (weight_before weights) at,
          ),
        )

module _ (old new : Store) (stride height : ℕ) (cursor : Cursor) (second : Bool) (weight : ℕ) (kept : IsKept old.words old.weights stride height cursor)
    (put : IsPut second weight cursor.ones cursor.weight old new) (fresh : IsFresh old.words.items) (high : cursor.row + 6 < height)
    (room : length old.weights.items < old.weights.capacity) (fits : weight < 2 ^ 32) where
  abbrev n : ℕ
  n = length old.weights.items

  abbrev olds : List Word
  olds = old.words.items

  abbrev news : List Word
  news = new.words.items

  abbrev base : ℕ
  base = 64 * (cursor.row * stride)

  abbrev begin : ℕ
  begin = start_of (height - cursor.row) cursor.at

  begin-le : begin ≤ cursor.at
  begin-le = start_of-le (height - cursor.row) cursor.at

  count : length new.weights.items ≡ n + 1
  count = ap length put.weights ∙ (let e : length (old.weights.items ++ weight ∷ []) ≡ n + 1 = simp length-append refl in e)

  fresh' : IsFresh news
  fresh' k = put.word.dead k ∙ fresh k

  same_total : (m : ℕ) → m ≤ n → total (second_at news) m ≡ total (second_at olds) m
  same_total m low = total-same (second_at news) (second_at olds) m (λ k below. put.word.others k (λ e. (let no : ⊥ = omega arith in no)))

  more_total : total (second_at news) (n + 1) ≡ total (second_at olds) n + cond second 1 0
  more_total = omega (arith, total-more (second_at news) n, same_total n (omega arith), put.word.own)

  own_weight : weight_at new.weights.items n ≡ weight
  own_weight = ap (λ ws. weight_at ws n) put.weights ∙ get_or_push old.weights.items weight 0 n refl

  old_weight : (k : ℕ) → k < n → weight_at new.weights.items k ≡ weight_at old.weights.items k
  old_weight k low = ap (λ ws. weight_at ws k) put.weights ∙ get_or_append_left old.weights.items (weight ∷ []) 0 k low

  same_weighs : (m : ℕ) → m ≤ n → total (weight_at new.weights.items) m ≡ total (weight_at old.weights.items) m
  same_weighs m low = total-same (weight_at new.weights.items) (weight_at old.weights.items) m (λ k below. old_weight k (omega arith))

  more_weighs : total (weight_at new.weights.items) (n + 1) ≡ total (weight_at old.weights.items) n + weight
  more_weighs = omega (arith, total-more (weight_at new.weights.items) n, same_weighs n (omega arith), own_weight)

  -- a word is an old one, or the new one
  which : (e : ℕ) → e < length news → (e < length olds) ⊎ (n ≡ 64 * e)
  which e there = elim (cases_lt e (length olds)) [ inl low ↦ inl low | inr high ↦ inr (omega (arith, high, there, put.word.entries, kept.entries)) ]

  old_end : (e : ℕ) → e < length olds → 64 * e ≤ n
  old_end e low = omega (arith, low, kept.entries)

  -- the place of a new word
  new_row : (q v : ℕ) → v < stride → n ≡ 64 * word_of stride q v → (q ≡ cursor.row) × (64 * v ≡ cursor.at)
  new_row q v within at =
      let row = same_row stride n cursor.row cursor.at q kept.placed kept.at_within (omega (arith, at)) (omega (arith, at, within)) in
      (row, omega (arith, at, kept.placed, ap (λ r. r * stride) row))

  begin-words : (q v : ℕ) → v < stride → n ≡ 64 * word_of stride q v → 64 * word_of stride q (start_of (block_height height q) v) ≡ base + begin
  begin-words q v within at =
      let is = new_row q v within at in
      omega (
        arith,
        ap (λ r. r * stride) is.0,
        start_of-words (height - cursor.row) v (let tall : 6 ≤ height - cursor.row = omega (arith, high) in tall),
        ap (start_of (height - cursor.row)) is.1,
        ap (λ r. start_of (block_height height r) v) is.0,
      )

  ranks-put : AreRanks news stride height
  ranks-put = record { ones = λ q v within there. ones q v within there (which (word_of stride q v) there) }
    where
      ones : (q v : ℕ) → v < stride → word_of stride q v < length news → (word_of stride q v < length olds) ⊎ (n ≡ 64 * word_of stride q v)
          → (word_at news (word_of stride q v)).ones + total (second_at news) (64 * word_of stride q (start_of (block_height height q) v))
          ≡ total (second_at news) (64 * word_of stride q v)
      ones q v within there (inl low) =
          omega (
            arith,
            kept.ranks.ones q v within low,
            (put.word.kept (word_of stride q v) low).ones,
            same_total (64 * word_of stride q v) (old_end (word_of stride q v) low),
            same_total (64 * word_of stride q (start_of (block_height height q) v)) (omega (arith, old_end (word_of stride q v) low, start_of-le (block_height height q) v)),
          )
      ones q v within there (inr at) =
          omega (
            arith,
            (put.word.opened (word_of stride q v) at).ones,
            kept.ones,
            ap (total (second_at news)) (begin-words q v within at),
            same_total (base + begin) (omega (arith, kept.placed, begin-le)),
            ap (total (second_at news)) (sym at),
            same_total n (omega arith),
          )

  weighed-put : AreWeighed news new.weights.items stride height
  weighed-put = record {
    before = λ q v within there. before q v within there (which (word_of stride q v) there);
    count = λ e there. none_died e (which e there);
    weight = λ e there. nothing_died e (which e there);
  }
    where
      before : (q v : ℕ) → v < stride → word_of stride q v < length news → (word_of stride q v < length olds) ⊎ (n ≡ 64 * word_of stride q v)
          → (word_at news (word_of stride q v)).weight + weight_before new.weights.items (word_of stride q (start_of (block_height height q) v))
          ≡ weight_before new.weights.items (word_of stride q v)
      before q v within there (inl low) =
          omega (
            arith,
            (kept.weighed fresh).before q v within low,
            (put.word.kept (word_of stride q v) low).weight,
            same_weighs (64 * word_of stride q v) (old_end (word_of stride q v) low),
            same_weighs (64 * word_of stride q (start_of (block_height height q) v)) (omega (arith, old_end (word_of stride q v) low, start_of-le (block_height height q) v)),
          )
      before q v within there (inr at) =
          omega (
            arith,
            (put.word.opened (word_of stride q v) at).weight,
            kept.weight fresh,
            ap (total (weight_at new.weights.items)) (begin-words q v within at),
            same_weighs (base + begin) (omega (arith, kept.placed, begin-le)),
            ap (total (weight_at new.weights.items)) (sym at),
            same_weighs n (omega arith),
          )

      none_died : (e : ℕ) → (e < length olds) ⊎ (n ≡ 64 * e) → (word_at news e).died.count ≡ 0
      none_died e (inl low) = ap (λ (d : Dead). d.count) (put.word.kept e low).died ∙ (kept.weighed fresh).count e low
      none_died e (inr at) = ap (λ (d : Dead). d.count) (put.word.opened e at).died

      nothing_died : (e : ℕ) → (e < length olds) ⊎ (n ≡ 64 * e) → (word_at news e).died.weight ≡ 0
      nothing_died e (inl low) = ap (λ (d : Dead). d.weight) (put.word.kept e low).died ∙ (kept.weighed fresh).weight e low
      nothing_died e (inr at) = ap (λ (d : Dead). d.weight) (put.word.opened e at).died

  -- where the next place is, and what is before it
  record IsNext (c : Cursor) : Type 0 where
    pub placed : length new.weights.items ≡ 64 * (c.row * stride) + c.at
    pub at_within : c.at < 64 * stride
    pub ones : c.ones + total (second_at news) (64 * (c.row * stride) + start_of (height - c.row) c.at) ≡ total (second_at news) (length new.weights.items)
    pub weight_is : c.weight + total (weight_at new.weights.items) (64 * (c.row * stride) + start_of (height - c.row) c.at)
        ≡ total (weight_at new.weights.items) (length new.weights.items)

  next-is : IsNext (next_of second weight (height - cursor.row) stride cursor)
  next-is = elim (cases_eq (cursor.at + 1) (stride * 64)) [
    | inl ended ↦
        let up : (cursor.row + 1) * stride ≡ cursor.row * stride + stride = grind arith in
        let first : start_of (height - (cursor.row + 1)) 0 ≡ 0 = omega (arith, start_of-le (height - (cursor.row + 1)) 0) in
        let end : 64 * ((cursor.row + 1) * stride) + start_of (height - (cursor.row + 1)) 0 ≡ length new.weights.items = omega (arith, first, up, count, kept.placed, ended) in
        subst IsNext (sym (next-row second weight (height - cursor.row) stride cursor ended)) (record {
          placed = omega (arith, up, count, kept.placed, ended);
          at_within = omega (arith, kept.some);
          ones = omega (arith, ap (total (second_at news)) end);
          weight_is = omega (arith, ap (total (weight_at new.weights.items)) end);
        })
    | inr goes_on ↦ in_row goes_on (cases_eq (start_of (height - cursor.row) (cursor.at + 1)) (cursor.at + 1))
  ]
    where
      in_row : cursor.at + 1 ≢ stride * 64 → (start_of (height - cursor.row) (cursor.at + 1) ≡ cursor.at + 1) ⊎ (start_of (height - cursor.row) (cursor.at + 1) ≢ cursor.at + 1)
          → IsNext (next_of second weight (height - cursor.row) stride cursor)
      in_row goes_on (inl begins) =
          let end : base + start_of (height - cursor.row) (cursor.at + 1) ≡ length new.weights.items = omega (arith, begins, count, kept.placed) in
          subst IsNext (sym (next-block second weight (height - cursor.row) stride cursor goes_on begins)) (record {
            placed = omega (arith, count, kept.placed);
            at_within = omega (arith, goes_on, kept.at_within);
            ones = omega (arith, ap (total (second_at news)) end);
            weight_is = omega (arith, ap (total (weight_at new.weights.items)) end);
          })
      in_row goes_on (inr other) =
          let same : base + start_of (height - cursor.row) (cursor.at + 1) ≡ base + begin = ap (λ s. base + s) (same_block (height - cursor.row) cursor.at other) in
          subst IsNext (sym (next-place second weight (height - cursor.row) stride cursor goes_on other)) (record {
            placed = omega (arith, count, kept.placed);
            at_within = omega (arith, goes_on, kept.at_within);
            ones = omega (
              arith,
              kept.ones,
              ap (total (second_at news)) same,
              same_total (base + begin) (omega (arith, kept.placed, begin-le)),
              ap (total (second_at news)) count,
              more_total,
            );
            weight_is = omega (
              arith,
              kept.weight fresh,
              ap (total (weight_at new.weights.items)) same,
              same_weighs (base + begin) (omega (arith, kept.placed, begin-le)),
              ap (total (weight_at new.weights.items)) count,
              more_weighs,
            );
          })

  pub IsKept-put : IsKept new.words new.weights stride height (next_of second weight (height - cursor.row) stride cursor)
  IsKept-put = record {
    entries = omega (arith, put.word.entries, count);
    within = omega (arith, count, put.room, room);
    room = omega (arith, kept.room, put.room, put.word.room);
    small = omega (arith, kept.small, put.room);
    some = kept.some;
    few = kept.few;
    low = kept.low;
    placed = next-is.placed;
    at_within = next-is.at_within;
    clear = record {
      second = λ k high. put.word.others k (λ e. (let no : ⊥ = omega (arith, e, high, count) in no)) ∙ kept.clear.second k (omega (arith, high, count));
      dead = λ k high. fresh' k;
    };
    light = λ k. light k (cases_lt k n) (cases_eq k n);
    ranks = ranks-put;
    weighed = λ still. weighed-put;
    trees = AreTrees-fresh news new.weights.items stride height fresh' weighed-put;
    ones = next-is.ones;
    weight = λ still. next-is.weight_is;
  }
    where
      light : (k : ℕ) → (k < n) ⊎ (n ≤ k) → (k ≡ n) ⊎ (k ≢ n) → weight_at new.weights.items k < 2 ^ 32
      light k (inl low) other = omega (arith, old_weight k low, kept.light k)
      light k (inr high) (inl is) = omega (arith, own_weight, ap (weight_at new.weights.items) is, fits)
      light k (inr high) (inr other) = omega (arith, get_or_past new.weights.items k 0 (omega (arith, count, high, other)))

  seconds-put : seconds news (n + 1) ≡ seconds olds n ++ second ∷ []
  seconds-put =
      map-range_with_len_more (λ k. second_at news k == 1) 0 n n (omega arith)
      ∙ ap₂ (λ (bits : List Bool) bit. bits ++ bit ∷ [])
      (fill_by_all (λ k. second_at olds k == 1) (seconds news n) n true (length-map-range_with_len (λ k. second_at news k == 1) 0 n)
      (λ k low. get_or-map-range_with_len (λ k. second_at news k == 1) 0 n k k true low (omega arith)
      ∙ ap (λ b. b == 1) (put.word.others k (λ e. (let no : ⊥ = omega arith in no)))))
      (ap (λ b. b == 1) put.word.own ∙ bit second)
    where
      bit : (b : Bool) → (cond b 1 0 == 1) ≡ b
      bit true = refl
      bit false = refl

  lives-put : lives news (n + 1) ≡ lives olds n ++ true ∷ []
  lives-put =
      map-range_with_len_more (λ k. dead_at news k == 0) 0 n n (omega arith)
      ∙ ap₂ (λ (bits : List Bool) bit. bits ++ bit ∷ [])
      (fill_by_all (λ k. dead_at olds k == 0) (lives news n) n true (length-map-range_with_len (λ k. dead_at news k == 0) 0 n)
      (λ k low. get_or-map-range_with_len (λ k. dead_at news k == 0) 0 n k k true low (omega arith) ∙ ap (λ b. b == 0) (put.word.dead k)))
      (ap (λ b. b == 0) (fresh' n))

  pub view-put : (v : Ranked) → seen old.words.items old.weights.items stride height old.weights.capacity ≡ v
      → seen new.words.items new.weights.items stride height new.weights.capacity ≡ with_place second weight v
  view-put v is =
      ap₂ (λ m cap. record { second = seconds news m; live = lives news m; weights = new.weights.items; stride = stride; height = height; room = cap }) count put.room
      ∙ ap₂ (λ (bits : List Bool) ws. record { second = bits; live = lives news (n + 1); weights = ws; stride = stride; height = height; room = old.weights.capacity })
      seconds-put put.weights
      ∙ ap (λ (bits : List Bool). record {
        second = seconds olds n ++ second ∷ [];
        live = bits;
        weights = old.weights.items ++ weight ∷ [];
        stride = stride;
        height = height;
        room = old.weights.capacity;
      }) lives-put
      ∙ ap (with_place second weight) is

  -- where the place stands in the next row
  pub target-put : (row k : ℕ) → n ≡ 64 * (row * stride) + k → k < 64 * stride
      → target_of (height - cursor.row) second cursor ≡ next_place (seen new.words.items new.weights.items stride height new.weights.capacity) row k
  target-put row k at within =
      let own = same_row stride n cursor.row cursor.at row kept.placed kept.at_within (omega (arith, at)) (omega (arith, at, within)) in
      let place : k ≡ cursor.at = omega (arith, at, kept.placed, ap (λ r. r * stride) own) in
      sym (ap₂ (λ r j. next_place (seen news new.weights.items stride height new.weights.capacity) r j) own place ∙ here)
    where
      ranked : rank (seen news new.weights.items stride height new.weights.capacity) cursor.row begin cursor.at ≡ cursor.ones
      ranked =
          omega (
            arith,
            how_many-ones (second_at news) (λ k. bit_at-lt (word_at news (k / 64)).second (k % 64)) (length new.weights.items) (base + begin) (base + cursor.at)
                (omega (arith, begin-le)) (omega (arith, count, kept.placed)),
            kept.ones,
            same_total (base + begin) (omega (arith, kept.placed, begin-le)),
            ap (total (second_at news)) kept.placed,
            same_total n (omega arith),
          )

      bit : slice_index_or (seconds news (length new.weights.items)) (base + cursor.at) true ≡ second
      bit =
          ap₂ (λ m i. slice_index_or (seconds news m) i true) count (sym kept.placed) ∙ ap (λ (bits : List Bool). slice_index_or bits n true) seconds-put
          ∙ get_or_push (seconds olds n) second true n (length-map-range_with_len (λ k. second_at olds k == 1) 0 n)

      here : next_place (seen news new.weights.items stride height new.weights.capacity) cursor.row cursor.at ≡ target_of (height - cursor.row) second cursor
      here =
          ap₂ (λ b r. cond b (begin + 2 ^ (height - cursor.row - 1) + r) (cursor.at - r)) bit ranked

-- nothing died where all places are live
pub fresh-live : (words : List Word) (weights : List ℕ) (stride height room : ℕ) (v : Ranked) → seen words weights stride height room ≡ v
    → All (λ live. live ≡ true) v.live → ((k : ℕ) → length weights ≤ k → dead_at words k ≡ 0) → IsFresh words
fresh-live words weights stride height room v is all clear k = elim (cases_lt k (length weights)) [
  | inl low ↦
      let here : All (λ live. live ≡ true) (lives words (length weights)) = subst (λ (v : Ranked). All (λ live. live ≡ true) v.live) (sym is) all in
      let long : k < length (lives words (length weights)) = omega (arith, low, length-map-range_with_len (λ k. dead_at words k == 0) 0 (length weights)) in
      eqb-true (dead_at words k) 0 (sym (get_or-map-range_with_len (λ k. dead_at words k == 0) 0 (length weights) k k true low (omega arith))
      ∙ All-get_or (λ live. live ≡ true) (lives words (length weights)) k true long here)
  | inr high ↦ clear k high
]

-- what a cursor has is no more than what there is
pub cursor-few : (words : List Word) (weights : List ℕ) (stride row begin at ones n : ℕ) → n ≡ 64 * (row * stride) + at → begin ≤ at
    → ones + total (second_at words) (64 * (row * stride) + begin) ≡ total (second_at words) n → ones ≤ at
cursor-few words weights stride row begin at ones n placed le is =
    omega (
      arith,
      is,
      total-most (second_at words) 1 (64 * (row * stride) + begin) (at - begin) (λ k. (let low = bit_at-lt (word_at words (k / 64)).second (k % 64) in omega (arith, low))),
      ap (total (second_at words)) (let e : 64 * (row * stride) + begin + (at - begin) ≡ n = omega (arith, placed, le) in e),
    )

pub cursor-light : (weights : List ℕ) (stride row begin at weight n : ℕ) → n ≡ 64 * (row * stride) + at → begin ≤ at → at < 2 ^ 32 → ((k : ℕ) → weight_at weights k < 2 ^ 32)
    → weight + total (weight_at weights) (64 * (row * stride) + begin) ≡ total (weight_at weights) n → weight + 2 ^ 32 ≤ 2 ^ 64
cursor-light weights stride row begin at weight n placed le few light is =
    omega (
      arith,
      is,
      total-most (weight_at weights) 4294967295 (64 * (row * stride) + begin) (at - begin) (λ k. (let low = light k in omega (arith, low))),
      ap (total (weight_at weights)) (let e : 64 * (row * stride) + begin + (at - begin) ≡ n = omega (arith, placed, le) in e),
    )

-- the same of what the struct has
module _ (i : Inside) (v : Ranked) (is : seen i.store.words.items i.store.weights.items i.stride i.height i.store.weights.capacity ≡ v)
    (kept : IsKept i.store.words i.store.weights i.stride i.height i.cursor) where
  pub few_in : i.cursor.ones ≤ i.cursor.at
  few_in =
      cursor-few i.store.words.items i.store.weights.items i.stride i.cursor.row (start_of (i.height - i.cursor.row) i.cursor.at) i.cursor.at i.cursor.ones
      (length i.store.weights.items) kept.placed (start_of-le (i.height - i.cursor.row) i.cursor.at) kept.ones

  pub room_in : length v.second < v.room → length i.store.weights.items < i.store.weights.capacity
  room_in room =
      omega (
        arith,
        room,
        ap (λ (u : Ranked). length u.second) is,
        ap (λ (u : Ranked). u.room) is,
        length-map-range_with_len (λ k. second_at i.store.words.items k == 1) 0 (length i.store.weights.items),
      )

  module _ (row : ℕ) (next : IsNextRow v row) (all : All (λ live. live ≡ true) v.live) where
    fresh_in : IsFresh i.store.words.items
    fresh_in = fresh-live i.store.words.items i.store.weights.items i.stride i.height i.store.weights.capacity v is all kept.clear.dead

    pub row_in : row ≡ i.cursor.row
    row_in =
        next_row i.store.words.items i.store.weights.items i.stride i.height i.store.weights.capacity v row i.cursor.row i.cursor.at is next kept.placed kept.at_within

    pub high_in : i.cursor.row + 6 < i.height
    high_in = omega (arith, row_in, next.high, ap (λ (u : Ranked). u.height) is)

    pub height_in : v.height - row ≡ i.height - i.cursor.row
    height_in = ap₂ (λ h q. h - q) (sym (ap (λ (u : Ranked). u.height) is)) row_in

    pub light_in : i.cursor.weight + 2 ^ 32 ≤ 2 ^ 64
    light_in =
        cursor-light i.store.weights.items i.stride i.cursor.row (start_of (i.height - i.cursor.row) i.cursor.at) i.cursor.at i.cursor.weight (length i.store.weights.items)
        kept.placed (start_of-le (i.height - i.cursor.row) i.cursor.at) (omega (arith, kept.at_within, kept.few)) kept.light (kept.weight fresh_in)

    module _ (new : Store) (second : Bool) (weight : ℕ) (put : IsPut second weight i.cursor.ones i.cursor.weight i.store new) (room : length v.second < v.room)
        (fits : weight < 2 ^ 32) where
      pub kept_in : IsKept new.words new.weights i.stride i.height (next_of second weight (i.height - i.cursor.row) i.stride i.cursor)
      kept_in = IsKept-put i.store new i.stride i.height i.cursor second weight kept put fresh_in high_in (room_in room) fits

      pub view_in : seen new.words.items new.weights.items i.stride i.height new.weights.capacity ≡ with_place second weight v
      view_in = view-put i.store new i.stride i.height i.cursor second weight kept put fresh_in high_in (room_in room) fits v is

      pub target_in : (q k : ℕ) → length v.second ≡ 64 * (q * v.stride) + k → k < 64 * v.stride
          → target_of (i.height - i.cursor.row) second i.cursor ≡ next_place (seen new.words.items new.weights.items i.stride i.height new.weights.capacity) q k
      target_in q k at within =
          let stride = ap (λ (u : Ranked). u.stride) is in
          let count = length-map-range_with_len (λ j. second_at i.store.words.items j == 1) 0 (length i.store.weights.items) in
          target-put i.store new i.stride i.height i.cursor second weight kept put fresh_in high_in (room_in room) fits q k
          (sym count ∙ ap (λ (u : Ranked). length u.second) is ∙ at ∙ ap (λ s. 64 * (q * s) + k) (sym stride)) (omega (arith, within, stride))
