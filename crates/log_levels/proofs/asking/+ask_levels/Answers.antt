use Rattle.std.proofs.Common.{◌≡◌, ◌+◌, ◌^◌, ◌<◌, ◌≤◌, ◌∙◌, ◌++◌, ◌∷◌, All, List, IsTrue, length, refl, ap, sym, subst, arith}
use Rattle.std.proofs.lemmas.List.Elements.{All-cons, All-nil}
use Rattle.std.proofs.lemmas.Result.{IfOk-weaker}
use Rattle.std.specs.List.{flat_map}
use Rattle.builder_trait.specs.Parts.{Contents, live_of}
use Rattle.log_levels.specs.Slots.{Slots}
use Rattle.log_levels.specs.Asking.{AreThreeAtMost}
use Rattle.log_levels.specs.Level.{IsOfLevel}
use Rattle.log_levels.specs.Levels.{live_items, parts_of}
use Rattle.log_levels.proofs.Publishing.{none_of}
use Rattle.log_levels.proofs.Joining.{asked_over, asked_over-then, asked_over-nothing}
use Rattle.log_levels.proofs.asking.+ask_levels.Goals as goal

pub ask_levels-requires : goal.ask_levels-requires
ask_levels-requires g t c κs lives =
    let more = lives.1.1.1 in
    let room : c.args.asking.now.parts + parts_of c.in-Some.above.now < 2 ^ 32 = omega (arith, c.requires.room, ap parts_of c.in-Some.ensures.cases.0) in (
      omega (arith, c.decreases, c.in-Some.ensures.cases.1),
      (lives.0, (lives.1.0, (lives.1.1.0, (more.0, (more.1.0, (more.1.1.0, (more.1.1.1, (c.requires.going, (c.requires.lawful, room))))))))),
    )

pub returns-in_err-ask_levels-in-Some-clause-refused : goal.returns-in_err-ask_levels-in-Some-clause-refused
returns-in_err-ask_levels-in-Some-clause-refused g t c _ = c.in_err-ask_levels-in-Some.ensures.refused refl

pub returns-in_ok-ask_levels-in-Some-clause-refused : goal.returns-in_ok-ask_levels-in-Some-clause-refused
returns-in_ok-ask_levels-in-Some-clause-refused g t c failed =
    subst IsTrue (ap (λ a. a.refusable) c.in_ok-ask_levels-in-Some.ensures.joined.if_ok) (c.ask_parts.ensures.refused failed)

pub returns-in_ok-ask_levels-in-Some-clause-consulted : goal.returns-in_ok-ask_levels-in-Some-clause-consulted
returns-in_ok-ask_levels-in-Some-clause-consulted g t c =
    let same = ap length c.parts-parts.ensures.value in
    let split = ap parts_of c.in-Some.ensures.cases.0 in
    IfOk-weaker c.ask_parts.result _ _ (λ _ e. omega (arith, e, c.in_ok-ask_levels-in-Some.ensures.consulted, same, split)) c.ask_parts.ensures.consulted

pub returns-in-None-clause-consulted : goal.returns-in-None-clause-consulted
returns-in-None-clause-consulted g t c = omega (arith, ap parts_of (none_of c.args.levels.now (omega (arith, c.in-None.ensures.cases))))

pub returns-in_ok-ask_levels-in-Some-clause-joined : goal.returns-in_ok-ask_levels-in-Some-clause-joined
returns-in_ok-ask_levels-in-Some-clause-joined g t c =
    let contents = g.B.Part.Part.contents in
    let laws = g.met.Q.Question.decomposable in
    let above = c.in-Some.above.now in
    let parts = c.parts-parts.result.now in
    let live : List g.row.B-Part.Denot → List g.row.B-Item.Denot = λ ps. flat_map (λ p. live_of (contents p)) ps in
    let split = sym c.in-Some.ensures.cases.0 in
    let same : parts ≡ c.in-Some.lowest.now.parts = c.parts-parts.ensures.value in
    record {
      if_ok = IfOk-weaker c.ask_parts.result _ _
          (λ _ e. asked_over-then laws c.args.asking.now c.ask_levels.new.asking c.ask_parts.new.asking (live_items contents above) (live parts)
          (parts_of above) (length parts) c.requires.lawful c.in_ok-ask_levels-in-Some.ensures.joined.if_ok e
          (ap (λ ps. live_items contents above ++ live ps) same ∙ ap (live_items contents) split) (omega (arith, ap length same, ap parts_of split)))
          c.ask_parts.ensures.joined;
    }

pub returns-in-None-clause-joined : goal.returns-in-None-clause-joined
returns-in-None-clause-joined g t c =
    let laws = g.met.Q.Question.decomposable in
    let now = c.args.asking.now in
    record {
      if_ok = subst (λ ls. now ≡ asked_over laws now (live_items g.B.Part.Part.contents ls) (parts_of ls))
          (sym (none_of c.args.levels.now (omega (arith, c.in-None.ensures.cases)))) (sym (asked_over-nothing laws now c.requires.lawful));
    }

abbrev IsFew : {P Item : Type 0} → Slots P Item → Type 0
IsFew l = length l.parts ≤ 3

abbrev AreOfLevel : {P Item : Type 0} → (P → Contents Item) → Slots P Item → Type 0
AreOfLevel contents l = All (λ p. IsOfLevel l.level (contents p)) l.parts

-- one level, and those above it
both : {P Item : Type 0} (contents : P → Contents Item) (levels : List (Slots P Item)) (l : Slots P Item) (above : List (Slots P Item)) → levels ≡ l ∷ above
    → IsFew l → AreOfLevel contents l → AreThreeAtMost contents above → AreThreeAtMost contents levels
both contents levels l above split few of_level rest =
    subst (AreThreeAtMost contents) (sym split) (record {
      three = All-cons IsFew l above few rest.three;
      of_level = All-cons (AreOfLevel contents) l above of_level rest.of_level;
    })

pub returns-in_err-ask_levels-in-Some-clause-three : goal.returns-in_err-ask_levels-in-Some-clause-three
returns-in_err-ask_levels-in-Some-clause-three g t c =
    both g.B.Part.Part.contents c.args.levels.now c.in-Some.lowest.now c.in-Some.above.now c.in-Some.ensures.cases.0
    c.parts-parts.ensures.few c.parts-parts.ensures.of_level c.ask_levels.ensures.three

pub returns-in_ok-ask_levels-in-Some-clause-three : goal.returns-in_ok-ask_levels-in-Some-clause-three
returns-in_ok-ask_levels-in-Some-clause-three g t c =
    both g.B.Part.Part.contents c.args.levels.now c.in-Some.lowest.now c.in-Some.above.now c.in-Some.ensures.cases.0
    c.parts-parts.ensures.few c.parts-parts.ensures.of_level c.ask_levels.ensures.three

pub returns-in-None-clause-three : goal.returns-in-None-clause-three
returns-in-None-clause-three g t c =
    let contents = g.B.Part.Part.contents in
    subst (AreThreeAtMost contents) (sym (none_of c.args.levels.now (omega (arith, c.in-None.ensures.cases))))
    (record { three = All-nil IsFew; of_level = All-nil (AreOfLevel contents) })
