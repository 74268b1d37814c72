use Rattle.std.proofs.Common.{◌≡◌, ℕ, ◌+◌, ◌*◌, ◌^◌, ◌<◌, ◌||◌, ◌∙◌, ⊎_elim, true, false, if◌then◌else◌, ◌∷◌, ◌++◌, length, map, take, All, refl, sym, ap, ap₂, subst, arith}
use Rattle.std.proofs.lemmas.Bool.{cases_lt}
use Rattle.std.proofs.lemmas.List.Elements.{All-cons, All-head, All-tail}
use Rattle.std.specs.List.{flat_map}
use Rattle.query_laws.specs.declared.item.Order.TheVariants.{First}
use Rattle.query_laws.specs.Orders.{AllStampsDiffer}
use Rattle.query_laws.specs.StepLedger.{Spends}
use Rattle.query_laws.proofs.Counting.{Spends-nothing, Spends-within}
use Rattle.builder_trait.specs.Builders.{PartProfile}
use Rattle.builder_trait.specs.Parts.{OwnsStamp, has_stamp, without, live_of}
use Rattle.log_levels.specs.Slots.{Slots, work_of, waiting_in, weight_in, live_in, items_in, asked_in}
use Rattle.log_levels.specs.Levels.{weight_of, live_items, all_items, parts_asked}
use Rattle.log_levels.specs.Neighbours.{IsPunctual}
use Rattle.log_levels.specs.Towers.{AreLevels}
use Rattle.log_levels.specs.Marking.{IsSameBelow, noted_above}
use Rattle.log_levels.proofs.Clocks.{work-noted}
use Rattle.log_levels.proofs.Distinct.{AllStampsDiffer-front, AllStampsDiffer-back}
use Rattle.log_levels.proofs.Publishing.{none_of}
use Rattle.log_levels.proofs.Marks.{All-first, All-second, has_stamp-append, without-append, without-lacking, Spends-both}
use Rattle.log_levels.proofs.MarkedLevels.{same-noted, tower-over, lacks-below, parts_asked-above, parts_asked-both, light_level, levels_from_tower, read_into-same, noted-lacking}
use Rattle.log_levels.proofs.marking.+mark_in.Given.{Over}
use Rattle.log_levels.proofs.marking.+mark_in.Goals as goal

abbrev profile : (g : Over) → PartProfile g.row.B-Item.Denot
profile g = record { stamp = g.B.Item.Item.stamp; before = g.B.Item.Item.before; slope = g.B.Builder.SLOPE; base = g.B.Builder.BASE }

lighter : {m : ℕ} (a b : ℕ) → a + b < m → b < m
lighter a b light = omega (arith, light)

pub mark_in-requires : goal.mark_in-requires
mark_in-requires g p c κs lives =
    let contents = g.B.Part.Part.contents in
    let stamp = g.B.Item.Item.stamp in
    let x = c.args.item.now in
    let level = c.in-Some.level.now in
    let above = c.in-Some.above.now in
    let split = c.in-Some.ensures.cases.0 in
    let punctual : Slots g.row.B-Part.Denot g.row.B-Item.Denot → Type 0 = IsPunctual (profile g) in
    let levels = levels_from_tower contents (profile g) level above (subst (AreLevels contents (profile g)) split c.requires.levels) in
    let on_time = All-tail punctual level above (subst (All punctual) split c.requires.punctual) in
    let apart = AllStampsDiffer-front stamp (all_items contents above) (items_in contents level)
    (subst (λ ls. AllStampsDiffer stamp (all_items contents ls)) split c.requires.apart) in
    let owner = All-first (λ y. stamp y ≡ stamp x → y ≡ x) (all_items contents above) (items_in contents level)
    (subst (λ ls. OwnsStamp stamp x (all_items contents ls)) split c.requires.owner) in
    (omega (arith, c.decreases, c.in-Some.ensures.cases.1), (lives.0, (lives.1.0, (lives.1.1.0, (lives.1.1.1, (levels, (on_time, (apart, owner))))))))

pub returns-then-mark_in : goal.returns-then-mark_in
returns-then-mark_in g p c =
    let contents = g.B.Part.Part.contents in
    let stamp = g.B.Item.Item.stamp in
    let before = g.B.Item.Item.before First in
    let x = c.args.item.now in
    let s = stamp x in
    let level = c.in-Some.level.now in
    let above = c.in-Some.above.now in
    let split = c.in-Some.ensures.cases.0 in
    let new = c.mark_in.new.levels in
    let h = c.mark_in.ensures in
    let on : has_stamp stamp s (live_items contents above) ≡ true = sym h.found ∙ c.if-mark_in.true in
    let lacks = lacks-below contents stamp s level above (subst (λ ls. AllStampsDiffer stamp (all_items contents ls)) split c.requires.apart) on in
    record {
      levels = tower-over contents (profile g) level above new (subst (AreLevels contents (profile g)) split c.requires.levels) h.levels h.same;
      found = sym (ap (λ ls. has_stamp stamp s (live_items contents ls)) split
          ∙ has_stamp-append stamp s (live_items contents above) (live_in contents level) ∙ ap (λ b. b || has_stamp stamp s (live_in contents level)) on);
      unfound = λ off. absurd cc;
      same = subst (λ ls. IsSameBelow ls (level ∷ new)) (sym split) (level, new, refl, refl);
      marked = record {
        live = ap₂ (λ l m. l ++ m) h.marked.live (sym (without-lacking stamp s (live_in contents level) lacks))
            ∙ sym (ap (λ ls. without stamp s (live_items contents ls)) split ∙ without-append stamp s (live_items contents above) (live_in contents level));
        items = ap (λ l. l ++ items_in contents level) h.marked.items ∙ sym (ap (all_items contents) split);
        weight = ap (λ n. weight_in level + n) h.marked.weight ∙ sym (ap weight_of split);
        as_many = ap (λ ns. length level.parts ∷ ns) h.marked.as_many ∙ sym (ap (map (λ l. length l.parts)) split);
        numbers = ap (λ ns. level.level ∷ ns) h.marked.numbers ∙ sym (ap (map (λ l. l.level)) split);
        work = ap (λ os. work_of level ∷ os) h.marked.work ∙ sym (ap (map work_of) split);
        waiting = rw split (omega (arith, h.marked.waiting, noted-lacking before x contents stamp level above lacks));
      };
      cost = λ g' light. subst (λ n. Spends c.args.steps.now c.mark_in.new.steps 0 n (n * g.B.Part.Part.mark_touches g'))
          (sym (ap (parts_asked contents stamp s) split ∙ parts_asked-above contents stamp s level above on))
          (h.cost g' (lighter (weight_in level) (weight_of above) (subst (λ ls. weight_of ls < 2 ^ (g' + 1)) split light)));
    }

pub mark_and_note-requires : goal.mark_and_note-requires
mark_and_note-requires g p c =
    let contents = g.B.Part.Part.contents in
    let stamp = g.B.Item.Item.stamp in
    let x = c.args.item.now in
    let level = c.in-Some.level.now in
    let above = c.in-Some.above.now in
    let split = c.in-Some.ensures.cases.0 in
    let h = c.mark_in.ensures in
    record {
      tower = tower-over contents (profile g) level above c.mark_in.new.levels (subst (AreLevels contents (profile g)) split c.requires.levels) h.levels h.same;
      punctual = h.unfound c.if-mark_in.false;
      apart = AllStampsDiffer-back stamp (all_items contents above) (items_in contents level)
          (subst (λ ls. AllStampsDiffer stamp (all_items contents ls)) split c.requires.apart);
      owner = All-second (λ y. stamp y ≡ stamp x → y ≡ x) (all_items contents above) (items_in contents level)
          (subst (λ ls. OwnsStamp stamp x (all_items contents ls)) split c.requires.owner);
    }

pub returns-else-mark_in : goal.returns-else-mark_in
returns-else-mark_in g p c =
    let contents = g.B.Part.Part.contents in
    let stamp = g.B.Item.Item.stamp in
    let before = g.B.Item.Item.before First in
    let x = c.args.item.now in
    let s = stamp x in
    let level = c.in-Some.level.now in
    let above = c.in-Some.above.now in
    let split = c.in-Some.ensures.cases.0 in
    let punctual : Slots g.row.B-Part.Denot g.row.B-Item.Denot → Type 0 = IsPunctual (profile g) in
    let mid = c.mark_in.new.levels in
    let level' = c.mark_and_note.new.level in
    let above' = c.mark_and_note.new.above in
    let h = c.mark_in.ensures in
    let n = c.mark_and_note.ensures in
    let m = n.marked in
    let off : has_stamp stamp s (live_items contents above) ≡ false = sym h.found ∙ c.if-mark_in.false in
    let marks = asked_in contents stamp s level.parts in
    let here : waiting_in level' ≡ waiting_in level = ap waiting_in m.same in
    let seen : noted_above before x contents stamp level mid ≡ noted_above before x contents stamp level above =
    ap (λ k. if has_stamp stamp s (flat_map (λ p. live_of (contents p)) (take 2 level.parts)) then k else 0) (read_into-same before x above mid h.same) in
    record {
      levels = n.tower;
      found = n.found ∙ sym (ap (λ ls. has_stamp stamp s (live_items contents ls)) split
          ∙ has_stamp-append stamp s (live_items contents above) (live_in contents level) ∙ ap (λ b. b || has_stamp stamp s (live_in contents level)) off);
      unfound = λ unfound. All-cons punctual level' above'
          (λ c' is. All-head punctual level above (subst (All punctual) split c.requires.punctual) c' (sym (ap (λ v. v.construction) m.same) ∙ is))
          (subst (All punctual) (sym (n.unfound unfound)) (h.unfound c.if-mark_in.false));
      same = subst (λ ls. IsSameBelow ls (level' ∷ above')) (sym split) (level', above', refl, m.same);
      marked = record {
        live = ap₂ (λ l k. l ++ k)
            (same-noted (live_items contents) (λ l l' rest same _. ap (λ v. live_items contents rest ++ live_in contents v) same) mid above' n.noted
            ∙ h.marked.live) m.live
            ∙ sym (ap (λ ls. without stamp s (live_items contents ls)) split ∙ without-append stamp s (live_items contents above) (live_in contents level));
        items = ap₂ (λ l k. l ++ k)
            (same-noted (all_items contents) (λ l l' rest same _. ap (λ v. all_items contents rest ++ items_in contents v) same) mid above' n.noted
            ∙ h.marked.items) m.items
            ∙ sym (ap (all_items contents) split);
        weight = ap₂ (λ l k. l + k) (ap₂ (λ l k. l * 2 ^ k) m.as_many (ap (λ v. v.level) m.same))
            (same-noted weight_of (λ l l' rest same _. ap (λ v. weight_in v + weight_of rest) same) mid above' n.noted ∙ h.marked.weight)
            ∙ sym (ap weight_of split);
        as_many = ap₂ (λ l ns. l ∷ ns) m.as_many
            (same-noted (map (λ v. length v.parts)) (λ l l' rest same _. ap (λ v. length v.parts ∷ map (λ u. length u.parts) rest) same) mid above' n.noted
            ∙ h.marked.as_many)
            ∙ sym (ap (map (λ l. length l.parts)) split);
        numbers = ap₂ (λ l ns. l ∷ ns) (ap (λ v. v.level) m.same)
            (same-noted (map (λ v. v.level)) (λ l l' rest same _. ap (λ v. v.level ∷ map (λ u. u.level) rest) same) mid above' n.noted ∙ h.marked.numbers)
            ∙ sym (ap (map (λ l. l.level)) split);
        work = ap₂ (λ o os. o ∷ os) (ap work_of m.same) (work-noted mid above' n.noted ∙ h.marked.work) ∙ sym (ap (map work_of) split);
        waiting = rw split (omega (arith, here, h.marked.waiting, n.waiting, seen));
      };
      cost = λ g' light.
          let t = g.B.Part.Part.mark_touches g' in
          let spends = λ (n : ℕ) (m : ℕ). Spends c.mark_in.new.steps c.mark_and_note.new.steps 0 n (n * m) in
          let light' : weight_of (level ∷ above) < 2 ^ (g' + 1) = subst (λ ls. weight_of ls < 2 ^ (g' + 1)) split light in
          let here : spends marks t = ⊎_elim
          (λ none. let nothing : marks ≡ 0 = ap (asked_in contents stamp s) (none_of level.parts (omega (arith, none))) in
          let free : spends 0 (g.B.Part.Part.mark_touches level.level) =
          subst (λ m. spends m (g.B.Part.Part.mark_touches level.level)) nothing (n.cost level.level (omega arith)) in
          subst (λ m. spends m t) (sym nothing) (Spends-within free refl refl (omega arith)))
          (λ some. n.cost g' (light_level (length level.parts) level.level g' (weight_of above) some light'))
          (cases_lt (length level.parts) 1) in
          Spends-both t (parts_asked contents stamp s above) marks (parts_asked contents stamp s c.args.levels.now)
          (h.cost g' (lighter (weight_in level) (weight_of above) light')) here (ap (parts_asked contents stamp s) split ∙ parts_asked-both contents stamp s level above off);
    }

pub returns-in-None-clause-marked : goal.returns-in-None-clause-marked
returns-in-None-clause-marked g p c =
    rw (none_of c.args.levels.now (omega (arith, c.in-None.ensures.cases)))
    (record { live = refl; items = refl; weight = refl; as_many = refl; numbers = refl; work = refl; waiting = refl })

pub returns-in-None-clause-cost : goal.returns-in-None-clause-cost
returns-in-None-clause-cost g p c g' light =
    let contents = g.B.Part.Part.contents in
    let s = g.B.Item.Item.stamp c.args.item.now in
    let none = none_of c.args.levels.now (omega (arith, c.in-None.ensures.cases)) in
    let nothing : parts_asked contents g.B.Item.Item.stamp s c.args.levels.now ≡ 0 = ap (parts_asked contents g.B.Item.Item.stamp s) none in
    subst (λ n. Spends c.args.steps.now c.args.steps.now 0 n (n * g.B.Part.Part.mark_touches g')) (sym nothing)
    (Spends-within (Spends-nothing c.args.steps.now) refl refl (omega arith))
