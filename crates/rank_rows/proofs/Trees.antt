-- Trees over the words of a block.
use Rattle.std.proofs.Common.{◌≡◌, ℕ, zero, suc, ◌+◌, ◌^◌, ◌<◌, ◌≤◌, ◌⊎◌, inl, inr, List, refl, sym, ap, subst, ◌∙◌, arith, pow_mono}
use Rattle.std.proofs.lemmas.Bool.{cases_lt}
use Rattle.std.proofs.lemmas.Nat.{pow_pos}
use Rattle.row_blocks.proofs.Blocks.{pow_next}
use Rattle.rank_rows.specs.declared.word.Dead.{Dead}
use Rattle.rank_rows.specs.declared.word.Word.{Word}
use Rattle.rank_rows.specs.Words.{word_at}
use Rattle.rank_rows.specs.Nodes.{IsNode, AreNodes, IsMarking, IsSameButDied, with_dead}

twice : (low : ℕ) → 2 ^ suc low ≡ 2 ^ low + 2 ^ low
twice low = ap (λ h. 2 ^ h) (let one : suc low ≡ low + 1 = omega arith in one) ∙ pow_next low

-- a tree is the node at its middle and the trees of its halves
pub record AreHalves (words : List Word) (dead weighs : ℕ → ℕ) (start low end : ℕ) : Type 0 where
  pub node : start + 2 ^ low < end → IsNode words dead weighs start (start + 2 ^ low)
  pub first : AreNodes words dead weighs start low end
  pub second : AreNodes words dead weighs (start + 2 ^ low) low end

module _ (words : List Word) (dead weighs : ℕ → ℕ) where
  none : (start end : ℕ) → AreNodes words dead weighs start 0 end
  unfolding AreNodes
  none start end = tt

  pub AreNodes-none : (start height end : ℕ) → height ≡ 0 → AreNodes words dead weighs start height end
  AreNodes-none start height end is = subst (λ h. AreNodes words dead weighs start h end) (sym is) (none start end)

  opened : (start low end : ℕ) → AreNodes words dead weighs start (suc low) end → AreHalves words dead weighs start low end
  unfolding AreNodes
  opened start low end (node, first, second) = record { node = node; first = first; second = second }

  closed : (start low end : ℕ) → AreHalves words dead weighs start low end → AreNodes words dead weighs start (suc low) end
  unfolding AreNodes
  closed start low end h = (h.node, h.first, h.second)

  pub AreNodes-open : (start height low end : ℕ) → height ≡ suc low → AreNodes words dead weighs start height end → AreHalves words dead weighs start low end
  AreNodes-open start height low end is nodes = opened start low end (subst (λ h. AreNodes words dead weighs start h end) is nodes)

  pub AreNodes-close : (start height low end : ℕ) → height ≡ suc low → AreHalves words dead weighs start low end → AreNodes words dead weighs start height end
  AreNodes-close start height low end is halves = subst (λ h. AreNodes words dead weighs start h end) (sym is) (closed start low end halves)

  -- as far as an earlier end
  pub AreNodes-sooner : (start height end sooner : ℕ) → sooner ≤ end → AreNodes words dead weighs start height end → AreNodes words dead weighs start height sooner
  AreNodes-sooner start zero end sooner le nodes = AreNodes-none start 0 sooner refl
  AreNodes-sooner start (suc low) end sooner le nodes =
      let h = opened start low end nodes in
      closed start low sooner (record {
        node = λ within. h.node (omega arith);
        first = AreNodes-sooner start low end sooner le h.first;
        second = AreNodes-sooner (start + 2 ^ low) low end sooner le h.second;
      })

  -- what died before a word of a block is no less than nothing
  pub lost_before : (start height end at : ℕ) → AreNodes words dead weighs start height end → start ≤ at → at < start + 2 ^ height → at < end
      → weighs at + (word_at words start).weight ≤ weighs start + (word_at words at).weight
  lost_before start zero end at nodes from block within =
      let is : at ≡ start = omega arith in
      omega (arith, ap weighs is, ap (λ e. (word_at words e).weight) is)
  lost_before start (suc low) end at nodes from block within =
      let h = opened start low end nodes in
      elim (cases_lt at (start + 2 ^ low)) [
        | inl below ↦ lost_before start low end at h.first from below within
        | inr above ↦ omega (arith, lost_before (start + 2 ^ low) low end at h.second above (omega (arith, block, twice low)) within, (h.node (omega arith)).weight)
      ]

-- the same tree where each word has as many dead more before it, and so much less weight
pub AreNodes-kept : (words words' : List Word) (dead weighs dead' weighs' : ℕ → ℕ) (more less start height end : ℕ)
    → ((e : ℕ) → start ≤ e → e < start + 2 ^ height → e < end → (word_at words' e).weight ≡ (word_at words e).weight)
    → ((e : ℕ) → start < e → e < start + 2 ^ height → e < end → (word_at words' e).died ≡ (word_at words e).died)
    → ((e : ℕ) → start ≤ e → e < start + 2 ^ height → e < end → (dead' e ≡ dead e + more) × (weighs' e + less ≡ weighs e))
    → AreNodes words dead weighs start height end → AreNodes words' dead' weighs' start height end
AreNodes-kept words words' dead weighs dead' weighs' more less start zero end same same_died shifted nodes = AreNodes-none words' dead' weighs' start 0 end refl
AreNodes-kept words words' dead weighs dead' weighs' more less start (suc low) end same same_died shifted nodes =
    let h = opened words dead weighs start low end nodes in
    let some = pow_pos low in
    let both = twice low in
    let middle = start + 2 ^ low in
    closed words' dead' weighs' start low end (record {
      node = λ within.
          let died = same_died middle (omega arith) (omega arith) within in
          let at_start = shifted start (omega arith) (omega arith) (omega arith) in
          let at_middle = shifted middle (omega arith) (omega arith) within in
          record {
            count = omega (arith, (h.node within).count, at_start.0, at_middle.0, ap (λ (d : Dead). d.count) died);
            weight = omega (
              arith,
              (h.node within).weight,
              at_start.1,
              at_middle.1,
              ap (λ (d : Dead). d.weight) died,
              same middle (omega arith) (omega arith) within,
              same start (omega arith) (omega arith) (omega arith),
            );
          };
      first = AreNodes-kept words words' dead weighs dead' weighs' more less start low end (λ e from to. same e from (omega arith)) (λ e from to. same_died e from (omega arith))
          (λ e from to. shifted e from (omega arith)) h.first;
      second = AreNodes-kept words words' dead weighs dead' weighs' more less middle low end (λ e from to. same e (omega arith) (omega arith))
          (λ e from to. same_died e (omega arith) (omega arith)) (λ e from to. shifted e (omega arith) (omega arith)) h.second;
    })

-- a place dies in a word of the block
module _ (at lost : ℕ) (dead weighs dead' weighs' : ℕ → ℕ) (marking : IsMarking at lost dead weighs dead' weighs') (start low end : ℕ) where
  unmoved : (e : ℕ) → e ≤ at → (dead' e ≡ dead e + 0) × (weighs' e + 0 ≡ weighs e)
  unmoved e le = (omega (arith, (marking.before e le).0), omega (arith, (marking.before e le).1))

  -- in the second half
  pub AreNodes-second : (words words' : List Word) (height : ℕ) → height ≡ suc low → start + 2 ^ low ≤ at
      → ((e : ℕ) → (e ≤ start + 2 ^ low) ⊎ (start + 2 ^ low + 2 ^ low ≤ e) → word_at words' e ≡ word_at words e)
      → AreNodes words dead weighs start height end → AreNodes words' dead' weighs' (start + 2 ^ low) low end
      → AreNodes words' dead' weighs' start height end
  AreNodes-second words words' height is above others nodes second =
      let h = AreNodes-open words dead weighs start height low end is nodes in
      let middle = start + 2 ^ low in
      let at_start = unmoved start (omega arith) in
      let at_middle = unmoved middle above in
      let here = others middle (inl (omega arith)) in
      let first_word = others start (inl (omega arith)) in
      AreNodes-close words' dead' weighs' start height low end is (record {
        node = λ within.
            record {
              count = omega (arith, (h.node within).count, at_start.0, at_middle.0, ap (λ (w : Word). w.died.count) here);
              weight = omega (
                arith,
                (h.node within).weight,
                at_start.1,
                at_middle.1,
                ap (λ (w : Word). w.died.weight) here,
                ap (λ (w : Word). w.weight) here,
                ap (λ (w : Word). w.weight) first_word,
              );
            };
        first = AreNodes-kept words words' dead weighs dead' weighs' 0 0 start low end (λ e from to within. ap (λ (w : Word). w.weight) (others e (inl (omega arith))))
            (λ e from to within. ap (λ (w : Word). w.died) (others e (inl (omega arith)))) (λ e from to within. unmoved e (omega arith)) h.first;
        second = second;
      })

  module _ (words counted words' : List Word) (height : ℕ) (is : height ≡ suc low) (from : start ≤ at) (below : at < start + 2 ^ low)
      (others : (e : ℕ) → (e ≡ start + 2 ^ low → ⊥) → word_at counted e ≡ word_at words e) (nodes : AreNodes words dead weighs start height end) where
    -- in the first half, whose tree is as it was
    pub AreNodes-first_yet : AreNodes counted dead weighs start low end
    AreNodes-first_yet =
        let h = AreNodes-open words dead weighs start height low end is nodes in
        AreNodes-kept words counted dead weighs dead weighs 0 0 start low end
        (λ e above to within. ap (λ (w : Word). w.weight) (others e (λ equal. (let no : ⊥ = omega arith in no))))
        (λ e above to within. ap (λ (w : Word). w.died) (others e (λ equal. (let no : ⊥ = omega arith in no)))) (λ e above to within. (omega arith, omega arith)) h.first

    -- and then has the place
    pub AreNodes-first : (start + 2 ^ low < end → word_at counted (start + 2 ^ low) ≡ with_dead lost (word_at words (start + 2 ^ low)))
        → ((e : ℕ) → IsSameButDied (word_at words e) (word_at counted e)) → ((e : ℕ) → (e ≤ start) ⊎ (start + 2 ^ low ≤ e) → word_at words' e ≡ word_at counted e)
        → AreNodes words' dead' weighs' start low end → AreNodes words' dead' weighs' start height end
    AreNodes-first node kept others' first =
        let h = AreNodes-open words dead weighs start height low end is nodes in
        let middle = start + 2 ^ low in
        let here = others' middle (inr (omega arith)) in
        let first_word = others' start (inl (omega arith)) in
        let at_start = marking.before start from in
        let at_middle = marking.after middle below in
        AreNodes-close words' dead' weighs' start height low end is (record {
          node = λ within.
              record {
                count = omega (arith, (h.node within).count, at_start.0, at_middle.0, ap (λ (w : Word). w.died.count) (here ∙ node within));
                weight = omega (
                  arith,
                  (h.node within).weight,
                  at_start.1,
                  at_middle.1,
                  ap (λ (w : Word). w.died.weight) (here ∙ node within),
                  ap (λ (w : Word). w.weight) (here ∙ node within),
                  ap (λ (w : Word). w.weight) first_word,
                  (kept start).weight,
                );
              };
          first = first;
          second = AreNodes-kept words words' dead weighs dead' weighs' 1 lost middle low end
              (λ e above to within. ap (λ (w : Word). w.weight) (others' e (inr (omega arith))) ∙ (kept e).weight)
              (λ e above to within. ap (λ (w : Word). w.died) (others' e (inr (omega arith)) ∙ others e (λ equal. (let no : ⊥ = omega arith in no))))
              (λ e above to within. marking.after e (omega arith)) h.second;
        })

  -- the middle has room for one more
  pub one_more : (words : List Word) (height : ℕ) → height ≡ suc low → start ≤ at → at < start + 2 ^ low → start + 2 ^ low < end → end ≤ 2 ^ 40
      → AreNodes words dead weighs start height end
      → ((word_at words (start + 2 ^ low)).died.count + 1 < 2 ^ 64)
      × ((word_at words (start + 2 ^ low)).died.weight + lost ≤ (word_at words (start + 2 ^ low)).weight)
  one_more words height is from below within small nodes =
      let node = (AreNodes-open words dead weighs start height low end is nodes).node within in
      let middle = start + 2 ^ low in
      let at_start = marking.before start from in
      let at_middle = marking.after middle below in (
        omega (arith, node.count, at_middle.0, marking.few middle (omega arith)),
        omega (arith, node.weight, at_start.1, at_middle.1, marking.rising start middle (omega arith)),
      )

pub twice_at : (height low : ℕ) → height ≡ suc low → 2 ^ height ≡ 2 ^ low + 2 ^ low
twice_at height low is = ap (λ h. 2 ^ h) is ∙ twice low

pub pow_low : (height : ℕ) → height ≤ 32 → 2 ^ height ≤ 2 ^ 32
pow_low height low = pow_mono low

-- a word at or behind the middle of a block
pub record IsBehind (words : List Word) (dead weighs : ℕ → ℕ) (start low middle at : ℕ) : Type 0 where
  pub node : IsNode words dead weighs start middle
  pub nodes : AreNodes words dead weighs middle low (at + 1)
  pub lost : weighs at + (word_at words middle).weight ≤ weighs middle + (word_at words at).weight
  pub block : at < middle + 2 ^ low

pub behind : (words : List Word) (dead weighs : ℕ → ℕ) (start height low middle at : ℕ) → height ≡ suc low → middle ≡ start + 2 ^ low → middle ≤ at
    → at < start + 2 ^ height → AreNodes words dead weighs start height (at + 1) → IsBehind words dead weighs start low middle at
behind words dead weighs start height low middle at is at_middle above below nodes =
    let h = AreNodes-open words dead weighs start height low (at + 1) is nodes in
    let block : at < start + 2 ^ low + 2 ^ low = omega (arith, twice_at height low is) in
    subst (λ m. IsBehind words dead weighs start low m at) (sym at_middle) (record {
      node = h.node (omega arith);
      nodes = h.second;
      lost = lost_before words dead weighs (start + 2 ^ low) low (at + 1) at h.second (omega arith) block (omega arith);
      block = block;
    })

-- the tree where nothing died
pub AreNodes-fresh : (words : List Word) (dead weighs : ℕ → ℕ) (none first start height end : ℕ)
    → ((e : ℕ) → start ≤ e → e < start + 2 ^ height → e < end → ((word_at words e).died.count ≡ 0) × ((word_at words e).died.weight ≡ 0)
    × (dead e ≡ none) × ((word_at words e).weight + first ≡ weighs e))
    → AreNodes words dead weighs start height end
AreNodes-fresh words dead weighs none first start zero end fresh = AreNodes-none words dead weighs start 0 end refl
AreNodes-fresh words dead weighs none first start (suc low) end fresh =
    let some = pow_pos low in
    let both = twice low in
    let middle = start + 2 ^ low in
    closed words dead weighs start low end (record {
      node = λ within.
          let at_start = fresh start (omega arith) (omega arith) (omega arith) in
          let at_middle = fresh middle (omega arith) (omega arith) within in
          record {
            count = omega (arith, at_middle.0, at_start.2, at_middle.2);
            weight = omega (arith, at_middle.1, at_start.3, at_middle.3);
          };
      first = AreNodes-fresh words dead weighs none first start low end (λ e from to within. fresh e from (omega arith) within);
      second = AreNodes-fresh words dead weighs none first middle low end (λ e from to within. fresh e (omega arith) (omega arith) within);
    })
