use Rattle.std.proofs.Common.{◌≡◌, ℕ, ◌+◌, ◌-◌, ◌*◌, ◌^◌, ◌<◌, ◌≤◌, ◌∙◌, ◌++◌, length, ap, sym, subst, arith}
use Rattle.query_laws.specs.Permuted.{Permuted}
use Rattle.builder_trait.specs.Builders.{PartProfile, IsQuota}
use Rattle.builder_trait.specs.Parts.{live_of}
use Rattle.ordered_merge.specs.Merging.{Merges, unbegun}
use Rattle.binary_stack.specs.Charge.{charge_at}
use Rattle.binary_stack.proofs.Charges.{charge-merged, charge_at-few, few_turns}
use Rattle.binary_stack.proofs.Joined.{HoldsLive-ended}
use Rattle.binary_stack.proofs.Levels.{doubled}
use Rattle.binary_stack.proofs.room.Room.join.Given.{Over}
use Rattle.binary_stack.proofs.room.Room.join.Goals as goal

abbrev profile : (g : Over) → PartProfile g.row.B-Item.Denot
profile g = record { stamp = g.B.Item.Item.stamp; before = g.B.Item.Item.before; slope = g.B.Builder.SLOPE; base = g.B.Builder.BASE }

-- two parts that fit a room's tables fit its builder
both_fit : (size seen few other : ℕ) → 1 ≤ size → size ≡ seen → few ≤ 2 ^ (seen - 1) → other ≤ 2 ^ (seen - 1) → few + other ≤ 2 ^ size
both_fit size seen few other some is fits other_fits =
    let here : size ≡ size - 1 + 1 = omega (arith, some) in
    let twice : 2 ^ size ≡ 2 * 2 ^ (size - 1) = ap (λ k. 2 ^ k) here ∙ doubled (size - 1) in
    let power : 2 ^ (size - 1) ≡ 2 ^ (seen - 1) = ap (λ n. 2 ^ (n - 1)) is in
    omega (arith, twice, power, fits, other_fits)

-- the turns of a room of this size
paid : (slope base size seen few other n level read left built : ℕ) → 1 ≤ size → size ≡ seen → few ≤ 2 ^ (seen - 1) → other ≤ 2 ^ (seen - 1) → level ≡ size
    → IsQuota slope base level n built → read ≡ left → left ≡ 2 * (few + other) → 2 * (read + built) ≤ charge_at slope base seen
paid slope base size seen few other n level read left built some is fits other_fits at quota all sum =
    let here = subst (λ k. IsQuota slope base k n built) (at ∙ is) quota in
    let h = charge-merged slope base seen few other n built (omega (arith, some, is)) fits other_fits here in
    subst (λ r. 2 * (r + built) ≤ charge_at slope base seen) (sym (all ∙ sum)) h

low : (slope base size seen turns : ℕ) → 2 * turns ≤ charge_at slope base seen → slope ≤ 4096 → base ≤ 4096 → size < 32 → size ≡ seen → turns < 2 ^ 50
low slope base size seen turns charged slope_small base_small small is =
    few_turns turns (charge_at slope base seen) charged (charge_at-few slope base seen slope_small base_small (omega (arith, small, is)))

pub begin-requires-clause-unbegun : goal.begin-requires-clause-unbegun
begin-requires-clause-unbegun g c = let h = c.self.invariant in h.3 ∙ sym (ap (λ m. unbegun m.capacity) h.3)

pub begin-requires-clause-fits : goal.begin-requires-clause-fits
begin-requires-clause-fits g c =
    omega (arith, c.requires.fits, ap (λ m. m.capacity) c.self.invariant.3, ap (λ n. 2 ^ (n - 1)) c.self.view_is)

pub begin-requires-clause-other_fits : goal.begin-requires-clause-other_fits
begin-requires-clause-other_fits g c =
    omega (arith, c.requires.other_fits, ap (λ m. m.capacity) c.self.invariant.3, ap (λ n. 2 ^ (n - 1)) c.self.view_is)

pub turns-requires-clause-merges : goal.turns-requires-clause-merges
turns-requires-clause-merges g c =
    let a = g.B.Part.Part.contents c.args.a.now in
    let b = g.B.Part.Part.contents c.args.b.now in
    let h = c.self.invariant in
    let size = c.self.inside.size in
    subst (Merges (profile g) c.begin.new.self a b) (sym h.2)
    (c.begin.ensures.merges size (both_fit size c.args.self (length a.items) (length b.items) h.0 c.self.view_is c.requires.fits c.requires.other_fits))

pub complete-part-requires-clause-open : goal.complete-part-requires-clause-open
complete-part-requires-clause-open g c = c.turns.ensures.merges.unsealed

pub complete-part-requires-clause-complete : goal.complete-part-requires-clause-complete
complete-part-requires-clause-complete g c =
    let ended : c.turns.new.self.left ≡ 0 = omega (arith, c.turns.ensures.read.left, c.left-read.ensures) in
    (HoldsLive-ended (ap (λ m. m.a.table) c.begin.ensures.left) (ap (λ m. m.b.table) c.begin.ensures.left) c.begin.ensures.valid
    c.begin.ensures.other_valid c.turns.ensures.merges c.turns.ensures.read ended).as_many

pub overflow_add-turns : goal.overflow_add-turns
overflow_add-turns g c =
    let h = c.self.invariant in
    let charged = paid g.B.Builder.SLOPE g.B.Builder.BASE c.self.inside.size c.args.self (length (g.B.Part.Part.contents c.args.a.now).items)
    (length (g.B.Part.Part.contents c.args.b.now).items) _ _ c.left-read.result c.begin.new.self.left c.complete-part.result.1 h.0 c.self.view_is
    c.requires.fits c.requires.other_fits (c.turns.ensures.read.level ∙ ap (λ p. p.at_level) h.2) c.complete-part.ensures.quota c.left-read.ensures
    (ap (λ m. m.left) c.begin.ensures.left) in
    let few = low g.B.Builder.SLOPE g.B.Builder.BASE c.self.inside.size c.args.self (c.left-read.result + c.complete-part.result.1) charged
    g.met.B.Builder.small.0 g.met.B.Builder.small.1 h.1 c.self.view_is in
    omega (arith, few)

pub returns-clause-items : goal.returns-clause-items
returns-clause-items g c =
    let a = g.B.Part.Part.contents c.args.a.now in
    let b = g.B.Part.Part.contents c.args.b.now in
    let ended : c.turns.new.self.left ≡ 0 = omega (arith, c.turns.ensures.read.left, c.left-read.ensures) in
    let holds = HoldsLive-ended (ap (λ m. m.a.table) c.begin.ensures.left) (ap (λ m. m.b.table) c.begin.ensures.left) c.begin.ensures.valid
    c.begin.ensures.other_valid c.turns.ensures.merges c.turns.ensures.read ended in
    subst (λ l. Permuted l (live_of a ++ live_of b)) (sym (ap (λ p. p.items) c.complete-part.ensures.whole)) holds.items

pub returns-clause-live : goal.returns-clause-live
returns-clause-live g c = c.complete-part.ensures.live ∙ sym (ap (λ p. p.items) c.complete-part.ensures.whole)

pub returns-clause-charged : goal.returns-clause-charged
returns-clause-charged g c =
    let h = c.self.invariant in
    paid g.B.Builder.SLOPE g.B.Builder.BASE c.self.inside.size c.args.self (length (g.B.Part.Part.contents c.args.a.now).items)
    (length (g.B.Part.Part.contents c.args.b.now).items) _ _ c.left-read.result c.begin.new.self.left c.complete-part.result.1 h.0 c.self.view_is
    c.requires.fits c.requires.other_fits (c.turns.ensures.read.level ∙ ap (λ p. p.at_level) h.2) c.complete-part.ensures.quota c.left-read.ensures
    (ap (λ m. m.left) c.begin.ensures.left)

pub returns-clause-few : goal.returns-clause-few
returns-clause-few g c =
    let h = c.self.invariant in
    let charged = paid g.B.Builder.SLOPE g.B.Builder.BASE c.self.inside.size c.args.self (length (g.B.Part.Part.contents c.args.a.now).items)
    (length (g.B.Part.Part.contents c.args.b.now).items) _ _ c.left-read.result c.begin.new.self.left c.complete-part.result.1 h.0 c.self.view_is
    c.requires.fits c.requires.other_fits (c.turns.ensures.read.level ∙ ap (λ p. p.at_level) h.2) c.complete-part.ensures.quota c.left-read.ensures
    (ap (λ m. m.left) c.begin.ensures.left) in
    low g.B.Builder.SLOPE g.B.Builder.BASE c.self.inside.size c.args.self (c.left-read.result + c.complete-part.result.1) charged
    g.met.B.Builder.small.0 g.met.B.Builder.small.1 h.1 c.self.view_is
