use Rattle.std.proofs.Common.{◌≡◌, ◌==◌, ◌^◌, ◌<◌, ◌∙◌, [], ◌∷◌, ◌++◌, Option, None, length, drop, refl, ap, sym, subst, arith}
use Rattle.std.specs.Option.{option_map_or}
use Rattle.builder_trait.specs.Builders.{PartProfile}
use Rattle.partial_build.specs.Construction.{Construction, skipped_of, turns_left}
use Rattle.part_store.specs.Shelves.{lent_at}
use Rattle.part_store.specs.Store.{TakesPart, TakesTables}
use Rattle.log_levels.specs.Slots.{ticks_of, waiting_in}
use Rattle.log_levels.specs.Level.{IsOfLevel}
use Rattle.log_levels.specs.Neighbours.{IsPublication}
use Rattle.log_levels.specs.Trades.{Trades}
use Rattle.log_levels.proofs.Neighbouring.{none_waiting}
use Rattle.log_levels.proofs.Paying.{left-ended}
use Rattle.log_levels.proofs.Publishing.{two_oldest, none_of, publication-of}
use Rattle.log_levels.proofs.Trading.{one_fits, Trades-same, lent-parts, lent-tables, trades-published}
use Rattle.log_levels.proofs.level.Level.publish.Given.{Over}
use Rattle.log_levels.proofs.level.Level.publish.Goals.{After-self}
use Rattle.log_levels.proofs.level.Level.publish.Goals as goal

abbrev profile : (g : Over) → PartProfile g.row.B-Item.Denot
profile g = record { stamp = g.B.Item.Item.stamp; before = g.B.Item.Item.before; slope = g.B.Builder.SLOPE; base = g.B.Builder.BASE }

pub publish-part-requires-clause-ended : goal.publish-part-requires-clause-ended
publish-part-requires-clause-ended g c =
    let h = c.in-Some.ensures.ended in
    let ticks : ticks_of c.args.self.now ≡ c.in-Some.construction.ticks =
    ap (λ (o : Option (Construction g.row.B-Item.Denot)). option_map_or (λ v. v.ticks) o 0) h.0 in
    omega (arith, h.2, c.requires.within, ticks, ap (λ k. 2 ^ k) h.1)

pub publish-part-requires-clause-none : goal.publish-part-requires-clause-none
publish-part-requires-clause-none g c =
    let h = c.in-Some.ensures.ended in
    none_of c.in-Some.construction.waiting (omega (arith, h.2, (c.requires.punctual c.in-Some.construction h.0).few_to_come))

pub arrive-requires-clause-of_level : goal.arrive-requires-clause-of_level
arrive-requires-clause-of_level g c =
    let h = c.in-Some.ensures.ended in
    let o = two_oldest c.args.lower.now.parts c.requires.two in
    let p = c.publish-part.ensures.published (g.B.Part.Part.contents o.0) (g.B.Part.Part.contents o.1) (c.requires.fed o.0 o.1 o.2 o.3 c.in-Some.construction h.0) in
    let level : c.in-Some.construction.level ≡ c.take_ended.new.self.level = h.1 ∙ sym (ap (λ v. v.level) c.in-Some.ensures.taken) in
    subst (λ k. IsOfLevel k (g.B.Part.Part.contents c.publish-part.result.0)) level (record { at_level = p.level; fits = p.few })

-- the level is the same through the call
same_level : (g : Over) (c : After-self g) → c.self.inside.level ≡ c.args.self.now.level
same_level g c = ap (λ v. v.level) c.self.view_is ∙ ap (λ v. v.level) c.arrive.ensures ∙ ap (λ v. v.level) c.in-Some.ensures.taken

pub take_back_tables-requires-clause-lent : goal.take_back_tables-requires-clause-lent
take_back_tables-requires-clause-lent g c =
    subst (λ k. 0 < lent_at k c.args.store.now.tables) (sym (same_level g c)) (lent-tables c.requires.lent c.requires.runs)

pub take_back_tables-requires-clause-of_level : goal.take_back_tables-requires-clause-of_level
take_back_tables-requires-clause-of_level g c = c.publish-part.ensures.tables ∙ c.in-Some.ensures.ended.1 ∙ sym (same_level g c)

pub retire_oldest-requires-clause-some : goal.retire_oldest-requires-clause-some
retire_oldest-requires-clause-some g c = omega (arith, c.requires.two)

pub retire_oldest-requires-clause-lent : goal.retire_oldest-requires-clause-lent
retire_oldest-requires-clause-lent g c =
    omega (arith, c.requires.two, lent-parts c.requires.lent, ap (lent_at c.args.lower.now.level) c.take_back_tables.ensures.builders)

pub retire_oldest-requires-in-Some-clause-some : goal.retire_oldest-requires-in-Some-clause-some
retire_oldest-requires-in-Some-clause-some g c =
    let o = two_oldest c.args.lower.now.parts c.requires.two in
    omega (arith, ap (λ v. length v.parts) c.retire_oldest.ensures.retired, ap (λ ps. length (drop 1 ps)) o.3)

pub retire_oldest-requires-in-Some-clause-lent : goal.retire_oldest-requires-in-Some-clause-lent
retire_oldest-requires-in-Some-clause-lent g c =
    let level : c.retire_oldest.new.self.level ≡ c.args.lower.now.level = ap (λ v. v.level) c.retire_oldest.ensures.retired in
    let left : 0 < lent_at c.args.lower.now.level c.retire_oldest.new.store.builders =
    omega (
      arith,
      c.requires.two,
      lent-parts c.requires.lent,
      ap (lent_at c.args.lower.now.level) c.take_back_tables.ensures.builders,
      c.retire_oldest.ensures.back.builders.lent c.args.lower.now.level,
      one_fits (c.args.lower.now.level == c.args.lower.now.level),
    ) in
    subst (λ k. 0 < lent_at k c.retire_oldest.new.store.builders) (sym level) left

pub returns-in-Some : goal.returns-in-Some
returns-in-Some g c =
    let contents = g.B.Part.Part.contents in
    let h = c.in-Some.ensures.ended in
    let o = two_oldest c.args.lower.now.parts c.requires.two in
    let p = c.publish-part.ensures.published (contents o.0) (contents o.1) (c.requires.fed o.0 o.1 o.2 o.3 c.in-Some.construction h.0) in
    let skipped = skipped_of c.in-Some.construction.merge.a.table (contents o.0).items ++ skipped_of c.in-Some.construction.merge.b.table (contents o.1).items in
    let new = c.arrive.new.self in
    let lower' = c.retire_oldest-in-Some.new.self in
    let published : IsPublication contents c.args.self.now c.args.lower.now new lower' =
    publication-of contents o.0 o.1 c.publish-part.result.0 o.2 o.3 c.in-Some.ensures.taken c.arrive.ensures c.retire_oldest.ensures.retired
    c.retire_oldest-in-Some.ensures.retired p.live (skipped, p.items) in
    let none : new.construction ≡ None = ap (λ v. v.construction) published.arrived in
    let left = turns_left (profile g) in
    let late : ticks_of c.args.self.now ≡ c.in-Some.construction.ticks =
    ap (λ (o : Option (Construction g.row.B-Item.Denot)). option_map_or (λ v. v.ticks) o 0) h.0 in
    record {
      waits = λ early. absurd (omega (arith, early, late, h.2, ap (λ k. 2 ^ k) h.1));
      ends = λ ended. published;
      trades = trades-published contents published c.requires.runs
          (subst (λ k. TakesTables k c.args.store.now c.take_back_tables.new.self) (same_level g (goal.at.returns-in-Some g c).After-self) c.take_back_tables.ensures)
          c.retire_oldest.ensures.back
          (subst (λ k. TakesPart k c.retire_oldest.new.store c.retire_oldest-in-Some.new.store) (ap (λ v. v.level) c.retire_oldest.ensures.retired)
          c.retire_oldest-in-Some.ensures.back);
      waiting =
          let before : waiting_in c.args.self.now ≡ length c.in-Some.construction.waiting =
          ap (λ (o : Option (Construction g.row.B-Item.Denot)). option_map_or (λ v. length v.waiting) o 0) h.0 in
          omega (arith, none_waiting new none, before, h.2, (c.requires.punctual c.in-Some.construction h.0).few_to_come);
      left = ap (λ o. option_map_or left o 0) none
          ∙ sym (ap (λ o. option_map_or left o 0) h.0 ∙ left-ended (profile g) c.in-Some.construction h.2 (c.requires.punctual c.in-Some.construction h.0));
    }

pub returns-in_default-clause-trades : goal.returns-in_default-clause-trades
returns-in_default-clause-trades g c =
    let same = c.in_default.ensures.waits refl in
    subst (λ v. Trades (c.args.lower.now ∷ c.args.self.now ∷ []) c.args.store.now (c.args.lower.now ∷ v ∷ []) c.args.store.now) (sym same)
    (Trades-same (c.args.lower.now ∷ c.args.self.now ∷ []) c.args.store.now)
