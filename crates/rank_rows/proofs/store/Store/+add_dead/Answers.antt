use Rattle.std.proofs.Common.{◌≡◌, ◌+◌, ◌-◌, ◌^◌, ◌<◌, ◌≤◌, ◌⊎◌, inl, inr, ℕ, suc, sym, subst, arith, rules, ◌∙◌}
use Rattle.rank_rows.specs.Words.{word_at}
use Rattle.rank_rows.specs.Nodes.{AreNodes, IsReady, with_dead}
use Rattle.rank_rows.proofs.Trees.{AreNodes-none, AreNodes-open, AreNodes-second, AreNodes-first_yet, AreNodes-first, one_more, twice_at}
use Rattle.rank_rows.proofs.store.Store.+add_dead.Goals as goal

pub returns-then-height-eq0-clause-nodes : goal.returns-then-height-eq0-clause-nodes
returns-then-height-eq0-clause-nodes g t c ready =
    AreNodes-none c.args.self.now.words.items ready.dead' ready.weighs' c.args.start c.args.height c.args.end c.if-height-eq0.true

pub add_dead-requires : goal.add_dead-requires
add_dead-requires g t c κs within =
    let is : c.args.height ≡ suc (c.args.height - 1) = omega arith in
    let r = c.requires.ready in
    let low = c.args.height - 1 in
    let words = c.args.self.now.words.items in
    let halves = AreNodes-open words r.dead r.weighs c.args.start c.args.height low c.args.end is r.nodes in
    let block : c.args.at < c.args.start + c.block_len.result + 2 ^ low = omega (arith, c.block_len.ensures, twice_at c.args.height low is) in
    let again : IsReady words (c.args.start + c.block_len.result) low c.args.end c.args.at c.args.weight = record {
      dead = r.dead;
      weighs = r.weighs;
      dead' = r.dead';
      weighs' = r.weighs';
      marking = r.marking;
      nodes = subst (λ n. AreNodes words r.dead r.weighs (c.args.start + n) low c.args.end) (sym c.block_len.ensures) halves.second;
    } in
    search rules

pub returns-then-middle-at-clause-nodes : goal.returns-then-middle-at-clause-nodes
returns-then-middle-at-clause-nodes g t c r =
    let is : c.args.height ≡ suc (c.args.height - 1) = omega arith in
    let low = c.args.height - 1 in
    let words = c.args.self.now.words.items in
    let words' = c.add_dead.new.self.words.items in
    let halves = AreNodes-open words r.dead r.weighs c.args.start c.args.height low c.args.end is r.nodes in
    let half : ℕ → ℕ = λ n. c.args.start + n in
    let second = c.add_dead.ensures.nodes (record {
      dead = r.dead;
      weighs = r.weighs;
      dead' = r.dead';
      weighs' = r.weighs';
      marking = r.marking;
      nodes = subst (λ n. AreNodes words r.dead r.weighs (half n) low c.args.end) (sym c.block_len.ensures) halves.second;
    }) in
    AreNodes-second c.args.at c.args.weight r.dead r.weighs r.dead' r.weighs' r.marking c.args.start low c.args.end words words' c.args.height is
    (omega (arith, c.block_len.ensures))
    (subst (λ n. (e : ℕ) → (e ≤ half n) ⊎ (half n + 2 ^ low ≤ e) → word_at words' e ≡ word_at words e) c.block_len.ensures c.add_dead.ensures.others) r.nodes
    (subst (λ n. AreNodes words' r.dead' r.weighs' (half n) low c.args.end) c.block_len.ensures second)

pub returns-then-middle-at-clause-others : goal.returns-then-middle-at-clause-others
returns-then-middle-at-clause-others g t c e outside =
    let is : c.args.height ≡ suc (c.args.height - 1) = omega arith in
    let both = twice_at c.args.height (c.args.height - 1) is in
    c.add_dead.ensures.others e (elim outside [ inl before ↦ inl (omega arith) | inr behind ↦ inr (omega (arith, c.block_len.ensures)) ])

pub count_dead-requires-clause-few : goal.count_dead-requires-clause-few
count_dead-requires-clause-few g t c within =
    let is : c.args.height ≡ suc (c.args.height - 1) = omega arith in
    let r = c.requires.ready in
    rw c.block_len.ensures
    (one_more c.args.at c.args.weight r.dead r.weighs r.dead' r.weighs' r.marking c.args.start (c.args.height - 1) c.args.end c.args.self.now.words.items c.args.height is
    c.requires.from (omega (arith, c.block_len.ensures)) (omega (arith, c.block_len.ensures)) (omega arith) r.nodes).0

pub count_dead-requires-clause-light : goal.count_dead-requires-clause-light
count_dead-requires-clause-light g t c within =
    let is : c.args.height ≡ suc (c.args.height - 1) = omega arith in
    let r = c.requires.ready in
    rw c.block_len.ensures
    (one_more c.args.at c.args.weight r.dead r.weighs r.dead' r.weighs' r.marking c.args.start (c.args.height - 1) c.args.end c.args.self.now.words.items c.args.height is
    c.requires.from (omega (arith, c.block_len.ensures)) (omega (arith, c.block_len.ensures)) (omega arith) r.nodes).1

pub add_dead-requires-2 : goal.add_dead-requires-2
add_dead-requires-2 g t c κs within =
    let is : c.args.height ≡ suc (c.args.height - 1) = omega arith in
    let r = c.requires.ready in
    let low = c.args.height - 1 in
    let words = c.args.self.now.words.items in
    let counted = c.count_dead.new.self.words.items in
    let below : c.args.at < c.args.start + 2 ^ low = omega (arith, c.block_len.ensures) in
    let again : IsReady counted c.args.start low c.args.end c.args.at c.args.weight = record {
      dead = r.dead;
      weighs = r.weighs;
      dead' = r.dead';
      weighs' = r.weighs';
      marking = r.marking;
      nodes = AreNodes-first_yet c.args.at c.args.weight r.dead r.weighs r.dead' r.weighs' r.marking c.args.start low c.args.end words counted words c.args.height is c.requires.from below
          (subst (λ n. (e : ℕ) → (e ≡ c.args.start + n → ⊥) → word_at counted e ≡ word_at words e) c.block_len.ensures c.count_dead.ensures.others) r.nodes;
    } in
    let many = c.count_dead.ensures.as_many in
    search rules

pub returns-clause-nodes : goal.returns-clause-nodes
returns-clause-nodes g t c r =
    let is : c.args.height ≡ suc (c.args.height - 1) = omega arith in
    let low = c.args.height - 1 in
    let words = c.args.self.now.words.items in
    let counted = c.count_dead.new.self.words.items in
    let words' = c.add_dead-2.new.self.words.items in
    let below : c.args.at < c.args.start + 2 ^ low = omega (arith, c.block_len.ensures) in
    let half : ℕ → ℕ = λ n. c.args.start + n in
    let others = subst (λ n. (e : ℕ) → (e ≡ half n → ⊥) → word_at counted e ≡ word_at words e) c.block_len.ensures c.count_dead.ensures.others in
    let first = c.add_dead-2.ensures.nodes (record {
      dead = r.dead;
      weighs = r.weighs;
      dead' = r.dead';
      weighs' = r.weighs';
      marking = r.marking;
      nodes = AreNodes-first_yet c.args.at c.args.weight r.dead r.weighs r.dead' r.weighs' r.marking c.args.start low c.args.end words counted words c.args.height is c.requires.from below others r.nodes;
    }) in
    AreNodes-first c.args.at c.args.weight r.dead r.weighs r.dead' r.weighs' r.marking c.args.start low c.args.end words counted words' c.args.height is c.requires.from below others r.nodes
    (subst (λ n. half n < c.args.end → word_at counted (half n) ≡ with_dead c.args.weight (word_at words (half n))) c.block_len.ensures c.count_dead.ensures.counted)
    c.count_dead.ensures.kept c.add_dead-2.ensures.others first

pub returns-clause-others : goal.returns-clause-others
returns-clause-others g t c e outside =
    let is : c.args.height ≡ suc (c.args.height - 1) = omega arith in
    let both = twice_at c.args.height (c.args.height - 1) is in
    let apart : e ≡ c.args.start + c.block_len.result → ⊥ = λ equal.
    elim outside [ inl before ↦ (let no : ⊥ = omega (arith, c.block_len.ensures) in no) | inr behind ↦ (let no : ⊥ = omega (arith, c.block_len.ensures) in no) ] in
    c.add_dead-2.ensures.others e (elim outside [ inl before ↦ inl before | inr behind ↦ inr (omega arith) ]) ∙ c.count_dead.ensures.others e apart
