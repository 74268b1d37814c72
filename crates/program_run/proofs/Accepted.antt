-- A made script is refused nothing but memory.
use Rattle.std.proofs.Common.{◌≡◌, ◌≢◌, ◌∙◌, ℕ, suc, false, inl, inr, arith, List, [], ◌∷◌, Option, Some, None, All, ap, sym, subst}
use Rattle.std.proofs.lemmas.List.Elements.{All-cons, All-nil}
use Rattle.query_laws.specs.StepLedger.{Counts}
use Rattle.map_model.specs.Command.{Command}
use Rattle.map_model.specs.Machine.{step}
use Rattle.map_model.specs.Output.{Told, Given}
use Rattle.map_model.specs.Refusal.{NoMemory}
use Rattle.map_model.specs.Reply.{Reply, Refused, is_refusal}
use Rattle.map_model.specs.State.{State}
use Rattle.map_session.specs.Session.{SessionState, map_in, Obeys}
use Rattle.workload_gen.specs.Accepted.{AreAccepted}

-- the reply that is told, or else another
abbrev reply_or : Reply → Option Told → Reply
reply_or other None = other
reply_or other (Some told) = told.reply

pub accepted_are_answered : (old : SessionState) (before : Counts) (commands : List Command) (told : List Told) (new : SessionState) (after : Counts)
    → Obeys old before commands told new after → AreAccepted (map_in old) commands → All (λ (one : Told). one.reply ≢ Refused NoMemory) told
    → All (λ (one : Told). is_refusal one.reply ≡ false) told
accepted_are_answered old before [] [] new after obeys accepted found = All-nil (λ (one : Told). is_refusal one.reply ≡ false)
accepted_are_answered old before [] (one ∷ more) new after obeys accepted found = absurd obeys
accepted_are_answered old before (command ∷ commands) [] new after obeys accepted found = absurd obeys
accepted_are_answered old before (command ∷ commands) (one ∷ more) new after obeys accepted found =
    let told_now : one.reply ≢ Refused NoMemory = found 0 one (omega arith) in
    let told_later : All (λ (t : Told). t.reply ≢ Refused NoMemory) more = λ k d less. found (suc k) d (omega (arith, less)) in
    elim obeys.2.answers [
      | inl executes ↦
          let reply : one.reply ≡ (step (map_in old) command).reply = ap (λ (g : Given). reply_or one.reply g.told) executes.is_given in
          let state : map_in obeys.0 ≡ (step (map_in old) command).state = ap (λ (g : Given). g.state) executes.is_given in
          All-cons (λ (t : Told). is_refusal t.reply ≡ false) one more (ap is_refusal reply ∙ accepted.0)
          (accepted_are_answered obeys.0 obeys.1 commands more new after obeys.3 (subst (λ (s : State). AreAccepted s commands) (sym state) accepted.1) told_later)
      | inr lacking ↦ absurd (told_now (ap (λ (g : Given). reply_or one.reply g.told) lacking.1))
    ]
