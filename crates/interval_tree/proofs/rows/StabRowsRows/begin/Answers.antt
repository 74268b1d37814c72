use Rattle.std.proofs.Common.{◌^◌, length, sym, ap, ◌∙◌, arith, subst}
use Rattle.interval_tree.specs.Growing.{AreEmpty, turns_left}
use Rattle.interval_tree.proofs.Filling.{flags_reordered-live, IsQuota-begun}
use Rattle.interval_tree.proofs.rows.StabRowsRows.begin.Goals as goal

pub returns-clause-growing : goal.returns-clause-growing
returns-clause-growing c =
    let b = c.args.segments.now in
    let cap = 2 ^ b.at_level in
    record {
      small = c.requires.putting.small;
      few = c.len-len.ensures.valid.few;
      room = c.begin-self.ensures.room cap (subst (AreEmpty cap) (sym c.deref_mut.ensures.value) c.requires.putting.empty);
      live = flags_reordered-live b c.len-len.ensures.valid c.requires.complete;
      filling = c.begin-self.ensures.filling b.items (sym c.len-len.ensures.value);
      left = c.begin-self.ensures.left ∙ ap (λ n. turns_left n c.begin-self.new.self) c.len-len.ensures.value;
    }

pub returns-clause-quota : goal.returns-clause-quota
returns-clause-quota c =
    IsQuota-begun (length c.args.segments.now.items) c.args.segments.now.at_level c.begin-self.result c.len-len.ensures.valid.few
    (omega (arith, c.begin-self.ensures.turns, c.len-len.ensures.value))

pub returns-clause-turns : goal.returns-clause-turns
returns-clause-turns c = omega (arith, c.begin-self.ensures.turns, c.len-len.ensures.value)
