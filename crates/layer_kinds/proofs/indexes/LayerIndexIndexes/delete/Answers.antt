use Rattle.std.proofs.Common.{◌+◌, ◌*◌, false, length, sym, subst}
use Rattle.id_chain.specs.Chain.{without_handle}
use Rattle.map_model.specs.Cost.{Rate}
use Rattle.layer_kinds.specs.Shares.{delete_turns, delete_marks}
use Rattle.layer_kinds.specs.Indexing.{wait_by, IsOf, IsReady}
use Rattle.layer_kinds.specs.Committing.{IsGoing, IsOver, Commits}
use Rattle.layer_kinds.proofs.Adopting.{going, over-of, over, ready, as_waits, exact_of, exact_waits, commits_after, commits_before}
use Rattle.layer_kinds.proofs.Waiting.{none_left}
use Rattle.layer_kinds.proofs.indexes.LayerIndexIndexes.delete.Goals as goal

pub adopt-requires : goal.adopt-requires
adopt-requires g c =
    let of = c.requires.of in
    let es = c.args.chain.now.entries in
    record { of = (es, of.0, over-of g.B.Part.Part.contents g.B.Item.Item.stamp c.args.self.now es of.0 of.1) }

pub let_go-requires-clause-going : goal.let_go-requires-clause-going
let_go-requires-clause-going g c = subst IsGoing (sym c.adopt.ensures) (going c.args.self.now)

pub let_go-requires-clause-ready : goal.let_go-requires-clause-ready
let_go-requires-clause-ready g c =
    let contents = g.B.Part.Part.contents in
    let es = c.args.chain.now.entries in
    subst (λ q. IsReady contents q es) (sym c.adopt.ensures) (ready contents c.args.self.now es c.requires.ready)

pub let_go-requires-clause-of : goal.let_go-requires-clause-of
let_go-requires-clause-of g c =
    let contents = g.B.Part.Part.contents in
    let stamp = g.B.Item.Item.stamp in
    let p = c.args.self.now in
    let es = c.args.chain.now.entries in
    let of = c.requires.of in
    (of.0, subst (λ q. IsOver contents stamp q es of.0) (sym c.adopt.ensures) (over contents stamp p es of.0 (over-of contents stamp p es of.0 of.1)))

pub adopt-requires-2 : goal.adopt-requires-2
adopt-requires-2 g c =
    let contents = g.B.Part.Part.contents in
    let stamp = g.B.Item.Item.stamp in
    let p = c.args.self.now in
    let es = c.args.chain.now.entries in
    let of = c.requires.of in
    let rest = c.let_go.ensures.of of.0
    (subst (λ q. IsOver contents stamp q es of.0) (sym c.adopt.ensures) (over contents stamp p es of.0 (over-of contents stamp p es of.0 of.1))) in
    record { of = (without_handle c.args.handle es, of.0, rest) }

pub returns-clause-of : goal.returns-clause-of
returns-clause-of g c stamps of =
    let contents = g.B.Part.Part.contents in
    let stamp = g.B.Item.Item.stamp in
    let p = c.args.self.now in
    let es = c.args.chain.now.entries in
    let rest = without_handle c.args.handle es in
    let over_rest : IsOver contents stamp c.let_go.new.self rest stamps = c.let_go.ensures.of stamps
    (subst (λ q. IsOver contents stamp q es stamps) (sym c.adopt.ensures) (over contents stamp p es stamps (over-of contents stamp p es stamps of))) in
    subst (λ q. IsOf contents stamp q rest stamps) (sym c.adopt-2.ensures) (exact_of contents stamp rest stamps c.let_go.new.self over_rest c.let_go.ensures.exact)

pub returns-clause-there : goal.returns-clause-there
returns-clause-there g c =
    let contents = g.B.Part.Part.contents in
    let stamp = g.B.Item.Item.stamp in
    let rate : Rate = record { slope = g.B.Builder.SLOPE; base = g.B.Builder.BASE } in
    let p = c.args.self.now in
    let es = c.args.chain.now.entries in
    let rest = without_handle c.args.handle es in
    let of = c.requires.of in
    let over_old = over-of contents stamp p es of.0 of.1 in
    let over_rest : IsOver contents stamp c.let_go.new.self rest of.0 = c.let_go.ensures.of of.0
    (subst (λ q. IsOver contents stamp q es of.0) (sym c.adopt.ensures) (over contents stamp p es of.0 over_old)) in
    let after = wait_by false c.args.handle es in
    let commits = Commits contents rate after delete_turns delete_marks (2 * length es + 10) in
    let first : commits p c.let_go.new.self c.args.steps.now c.let_go.new.steps = commits_after contents p c.let_go.new.self
    (as_waits contents stamp es of.0 after (none_left false c.args.handle es) p over_old c.requires.ready)
    (subst (λ q. commits q c.let_go.new.self c.args.steps.now c.let_go.new.steps) c.adopt.ensures c.let_go.ensures.commits) in
    (subst (λ q. commits p q c.args.steps.now c.let_go.new.steps) (sym c.adopt-2.ensures)
    (commits_before contents p c.let_go.new.self (exact_waits contents stamp rest of.0 c.let_go.new.self over_rest c.let_go.ensures.exact) first)).there

pub returns-clause-waits : goal.returns-clause-waits
returns-clause-waits g c =
    let contents = g.B.Part.Part.contents in
    let stamp = g.B.Item.Item.stamp in
    let rate : Rate = record { slope = g.B.Builder.SLOPE; base = g.B.Builder.BASE } in
    let p = c.args.self.now in
    let es = c.args.chain.now.entries in
    let rest = without_handle c.args.handle es in
    let of = c.requires.of in
    let over_old = over-of contents stamp p es of.0 of.1 in
    let over_rest : IsOver contents stamp c.let_go.new.self rest of.0 = c.let_go.ensures.of of.0
    (subst (λ q. IsOver contents stamp q es of.0) (sym c.adopt.ensures) (over contents stamp p es of.0 over_old)) in
    let after = wait_by false c.args.handle es in
    let commits = Commits contents rate after delete_turns delete_marks (2 * length es + 10) in
    let first : commits p c.let_go.new.self c.args.steps.now c.let_go.new.steps = commits_after contents p c.let_go.new.self
    (as_waits contents stamp es of.0 after (none_left false c.args.handle es) p over_old c.requires.ready)
    (subst (λ q. commits q c.let_go.new.self c.args.steps.now c.let_go.new.steps) c.adopt.ensures c.let_go.ensures.commits) in
    (subst (λ q. commits p q c.args.steps.now c.let_go.new.steps) (sym c.adopt-2.ensures)
    (commits_before contents p c.let_go.new.self (exact_waits contents stamp rest of.0 c.let_go.new.self over_rest c.let_go.ensures.exact) first)).waits

pub returns-clause-held : goal.returns-clause-held
returns-clause-held g c =
    let contents = g.B.Part.Part.contents in
    let stamp = g.B.Item.Item.stamp in
    let rate : Rate = record { slope = g.B.Builder.SLOPE; base = g.B.Builder.BASE } in
    let p = c.args.self.now in
    let es = c.args.chain.now.entries in
    let rest = without_handle c.args.handle es in
    let of = c.requires.of in
    let over_old = over-of contents stamp p es of.0 of.1 in
    let over_rest : IsOver contents stamp c.let_go.new.self rest of.0 = c.let_go.ensures.of of.0
    (subst (λ q. IsOver contents stamp q es of.0) (sym c.adopt.ensures) (over contents stamp p es of.0 over_old)) in
    let after = wait_by false c.args.handle es in
    let commits = Commits contents rate after delete_turns delete_marks (2 * length es + 10) in
    let first : commits p c.let_go.new.self c.args.steps.now c.let_go.new.steps = commits_after contents p c.let_go.new.self
    (as_waits contents stamp es of.0 after (none_left false c.args.handle es) p over_old c.requires.ready)
    (subst (λ q. commits q c.let_go.new.self c.args.steps.now c.let_go.new.steps) c.adopt.ensures c.let_go.ensures.commits) in
    (subst (λ q. commits p q c.args.steps.now c.let_go.new.steps) (sym c.adopt-2.ensures)
    (commits_before contents p c.let_go.new.self (exact_waits contents stamp rest of.0 c.let_go.new.self over_rest c.let_go.ensures.exact) first)).held

pub returns-clause-cost : goal.returns-clause-cost
returns-clause-cost g c =
    let contents = g.B.Part.Part.contents in
    let stamp = g.B.Item.Item.stamp in
    let rate : Rate = record { slope = g.B.Builder.SLOPE; base = g.B.Builder.BASE } in
    let p = c.args.self.now in
    let es = c.args.chain.now.entries in
    let rest = without_handle c.args.handle es in
    let of = c.requires.of in
    let over_old = over-of contents stamp p es of.0 of.1 in
    let over_rest : IsOver contents stamp c.let_go.new.self rest of.0 = c.let_go.ensures.of of.0
    (subst (λ q. IsOver contents stamp q es of.0) (sym c.adopt.ensures) (over contents stamp p es of.0 over_old)) in
    let after = wait_by false c.args.handle es in
    let commits = Commits contents rate after delete_turns delete_marks (2 * length es + 10) in
    let first : commits p c.let_go.new.self c.args.steps.now c.let_go.new.steps = commits_after contents p c.let_go.new.self
    (as_waits contents stamp es of.0 after (none_left false c.args.handle es) p over_old c.requires.ready)
    (subst (λ q. commits q c.let_go.new.self c.args.steps.now c.let_go.new.steps) c.adopt.ensures c.let_go.ensures.commits) in
    (subst (λ q. commits p q c.args.steps.now c.let_go.new.steps) (sym c.adopt-2.ensures)
    (commits_before contents p c.let_go.new.self (exact_waits contents stamp rest of.0 c.let_go.new.self over_rest c.let_go.ensures.exact) first)).cost
