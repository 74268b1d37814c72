use Rattle.std.proofs.Common.{Some, ◌∙◌, sym, ap, slice_get}
use Rattle.ordered_merge.proofs.steps.put_again.Goals as goal

pub put-requires-clause-second : goal.put-requires-clause-second
put-requires-clause-second g c _ =
    c.requires.fits c.in-Some.new_place
    (ap (slice_get c.args.table.now.items) (sym c.place-place.ensures.value) ∙ c.at.ensures.read
    ∙ ap Some (sym c.get.ensures ∙ c.in-Some.is))
