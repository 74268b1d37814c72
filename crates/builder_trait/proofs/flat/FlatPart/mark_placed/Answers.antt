use Rattle.std.proofs.Common.{ap, sym, ◌∙◌, length, arith, true, false, refl}
use Rattle.std.specs.List.{items_where_true}
use Rattle.std.specs.Option.{is_some}
use Rattle.std.proofs.lemmas.List.{length-set}
use Rattle.std.proofs.lemmas.Option.{slice_get_within}
use Rattle.query_laws.specs.declared.item.Order.TheVariants.{First}
use Rattle.builder_trait.specs.Parts.{has_stamp, live_of}
use Rattle.builder_trait.proofs.Marking.{fallen_none, has_stamp_none, set_same, length-one_dead, marked-to, live-to, fallen_here, found_here}
use Rattle.builder_trait.proofs.StampLemmas.{none_spanned, outside_not_spanned}
use Rattle.builder_trait.proofs.flat.FlatPart.mark_placed.Goals as goal

pub returns-then-not-spans-clause-found : goal.returns-then-not-spans-clause-found
returns-then-not-spans-clause-found g c =
    sym (has_stamp_none g.I.Item.stamp (g.I.Item.stamp c.args.item.now) c.self.inside.items.items c.self.inside.flags.items
    (none_spanned c.self.view_is c.self.invariant.1 c.args.item.now (omega arith) c.if-not-spans.ensures refl))
    ∙ ap (λ p. has_stamp g.I.Item.stamp (g.I.Item.stamp c.args.item.now) (live_of p)) c.self.view_is

pub returns-then-not-spans-clause-marked : goal.returns-then-not-spans-clause-marked
returns-then-not-spans-clause-marked g c =
    sym c.self.view_is
    ∙ marked-to g.I.Item.stamp c.args.item.now c.self.view_is
    (fallen_none g.I.Item.stamp (g.I.Item.stamp c.args.item.now) c.self.inside.items.items c.self.inside.flags.items c.self.invariant.0.valid.flagged
    (none_spanned c.self.view_is c.self.invariant.1 c.args.item.now (omega arith) c.if-not-spans.ensures refl))

pub returns-then-not-spans-clause-live : goal.returns-then-not-spans-clause-live
returns-then-not-spans-clause-live g c =
    ap (λ p. live_of p) (sym c.self.view_is)
    ∙ live-to g.I.Item.stamp c.args.item.now c.self.view_is
    (fallen_none g.I.Item.stamp (g.I.Item.stamp c.args.item.now) c.self.inside.items.items c.self.inside.flags.items c.self.invariant.0.valid.flagged
    (none_spanned c.self.view_is c.self.invariant.1 c.args.item.now (omega arith) c.if-not-spans.ensures refl))

pub returns-in_err-place-clause-outside : goal.returns-in_err-place-clause-outside
returns-in_err-place-clause-outside g c outside =
    absurd (outside_not_spanned c.self.view_is c.self.invariant.1 c.args.item.now (omega arith) c.if-not-spans.ensures (omega arith) refl outside)

pub returns-then-not-at-clause-outside : goal.returns-then-not-at-clause-outside
returns-then-not-at-clause-outside g c outside =
    absurd (outside_not_spanned c.self.view_is c.self.invariant.1 c.args.item.now (omega arith) c.if-not-spans.ensures (omega arith) refl outside)

pub returns-clause-outside : goal.returns-clause-outside
returns-clause-outside g c outside =
    absurd (outside_not_spanned c.self.view_is c.self.invariant.1 c.args.item.now (omega arith) c.if-not-spans.ensures (omega arith) refl outside)

pub returns-in_err-place-clause-found : goal.returns-in_err-place-clause-found
returns-in_err-place-clause-found g c =
    ap is_some c.from_residual.ensures
    ∙ sym (has_stamp_none g.I.Item.stamp (g.I.Item.stamp c.args.item.now) c.self.inside.items.items c.self.inside.flags.items (c.in_err-place.ensures.missing refl))
    ∙ ap (λ p. has_stamp g.I.Item.stamp (g.I.Item.stamp c.args.item.now) (live_of p)) c.self.view_is

pub returns-in_err-place-clause-marked : goal.returns-in_err-place-clause-marked
returns-in_err-place-clause-marked g c =
    sym c.self.view_is
    ∙ marked-to g.I.Item.stamp c.args.item.now c.self.view_is
    (fallen_none g.I.Item.stamp (g.I.Item.stamp c.args.item.now) c.self.inside.items.items c.self.inside.flags.items c.self.invariant.0.valid.flagged
    (c.in_err-place.ensures.missing refl))

pub returns-in_err-place-clause-live : goal.returns-in_err-place-clause-live
returns-in_err-place-clause-live g c =
    ap (λ p. live_of p) (sym c.self.view_is)
    ∙ live-to g.I.Item.stamp c.args.item.now c.self.view_is
    (fallen_none g.I.Item.stamp (g.I.Item.stamp c.args.item.now) c.self.inside.items.items c.self.inside.flags.items c.self.invariant.0.valid.flagged
    (c.in_err-place.ensures.missing refl))

pub at-requires : goal.at-requires
at-requires g c =
    omega (arith, slice_get_within c.self.inside.items.items c.in_ok-place.place c.args.item.now c.in_ok-place.ensures.found, c.self.invariant.0.valid.flagged)

pub returns-then-not-at-clause-found : goal.returns-then-not-at-clause-found
returns-then-not-at-clause-found g c =
    found_here g.I.Item.stamp c.args.item.now c.self.view_is (g.met.I.Item.ordered First) c.self.invariant.0.valid c.requires c.in_ok-place.place
    c.in_ok-place.ensures.found false c.if-not-at.ensures.read

pub returns-then-not-at-clause-marked : goal.returns-then-not-at-clause-marked
returns-then-not-at-clause-marked g c =
    sym c.self.view_is
    ∙ marked-to g.I.Item.stamp c.args.item.now c.self.view_is
    (fallen_here g.I.Item.stamp c.args.item.now c.self.view_is (g.met.I.Item.ordered First) c.self.invariant.0.valid c.requires c.in_ok-place.place
    c.in_ok-place.ensures.found
    ∙ set_same c.self.inside.flags.items c.in_ok-place.place false c.if-not-at.ensures.read)

pub returns-then-not-at-clause-live : goal.returns-then-not-at-clause-live
returns-then-not-at-clause-live g c =
    ap (λ p. live_of p) (sym c.self.view_is)
    ∙ live-to g.I.Item.stamp c.args.item.now c.self.view_is
    (fallen_here g.I.Item.stamp c.args.item.now c.self.view_is (g.met.I.Item.ordered First) c.self.invariant.0.valid c.requires c.in_ok-place.place
    c.in_ok-place.ensures.found
    ∙ set_same c.self.inside.flags.items c.in_ok-place.place false c.if-not-at.ensures.read)

pub set-requires : goal.set-requires
set-requires g c =
    omega (arith, slice_get_within c.self.inside.items.items c.in_ok-place.place c.args.item.now c.in_ok-place.ensures.found, c.self.invariant.0.valid.flagged)

pub overflow_sub-self : goal.overflow_sub-self
overflow_sub-self g c =
    omega (
      arith,
      c.self.invariant.0.live_counted,
      length-one_dead c.self.inside.flags.items c.self.inside.items.items c.in_ok-place.place c.if-not-at.ensures.read
          (slice_get_within c.self.inside.items.items c.in_ok-place.place c.args.item.now c.in_ok-place.ensures.found),
    )

pub invariant_of-self : goal.invariant_of-self
invariant_of-self g c =
    let within = slice_get_within c.self.inside.items.items c.in_ok-place.place c.args.item.now c.in_ok-place.ensures.found in
    let written = ap (λ r. r.items) c.set.ensures.written in
    let fewer = length-one_dead c.self.inside.flags.items c.self.inside.items.items c.in_ok-place.place c.if-not-at.ensures.read within in (
      record {
        wide = record {
          level_small = c.self.invariant.0.wide.level_small;
          room = c.self.invariant.0.wide.room;
          room_places = c.self.invariant.0.wide.room_places;
          room_flags = omega (arith, c.self.invariant.0.wide.room_flags, ap (λ r. r.capacity) c.set.ensures.written);
        };
        valid = record {
          rising = c.self.invariant.0.valid.rising;
          rising_reordered = c.self.invariant.0.valid.rising_reordered;
          flagged = ap length written ∙ length-set c.self.inside.flags.items c.in_ok-place.place false ∙ c.self.invariant.0.valid.flagged;
          placed = c.self.invariant.0.valid.placed;
          each_place = c.self.invariant.0.valid.each_place;
          same_items = c.self.invariant.0.valid.same_items;
        };
        live_counted = omega (arith, c.self.invariant.0.live_counted, fewer, ap (λ l. length (items_where_true l c.self.inside.items.items)) written);
      },
      c.self.invariant.1,
    )

pub returns-clause-found : goal.returns-clause-found
returns-clause-found g c =
    found_here g.I.Item.stamp c.args.item.now c.self.view_is (g.met.I.Item.ordered First) c.self.invariant.0.valid c.requires c.in_ok-place.place
    c.in_ok-place.ensures.found true c.if-not-at.ensures.read

pub returns-clause-marked : goal.returns-clause-marked
returns-clause-marked g c =
    marked-to g.I.Item.stamp c.args.item.now c.self.view_is
    (fallen_here g.I.Item.stamp c.args.item.now c.self.view_is (g.met.I.Item.ordered First) c.self.invariant.0.valid c.requires c.in_ok-place.place
    c.in_ok-place.ensures.found ∙ sym (ap (λ r. r.items) c.set.ensures.written))

pub returns-clause-live : goal.returns-clause-live
returns-clause-live g c =
    live-to g.I.Item.stamp c.args.item.now c.self.view_is
    (fallen_here g.I.Item.stamp c.args.item.now c.self.view_is (g.met.I.Item.ordered First) c.self.invariant.0.valid c.requires c.in_ok-place.place
    c.in_ok-place.ensures.found ∙ sym (ap (λ r. r.items) c.set.ensures.written))
