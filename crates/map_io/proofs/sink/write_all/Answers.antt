use Rattle.std.proofs.Common.{◌≡◌, ◌<◌, ◌-◌, length, take, drop, subst, ap, length-drop, ◌∙◌, arith}
use Rattle.std.proofs.lemmas.List.{take_rest}
use Rattle.std.specs.Io.KnownBytes.{Appends}
use Rattle.map_io.proofs.StreamLaws.{Appends-more}
use Rattle.map_io.proofs.SinkLaws.{counts_none, counts_one}
use Rattle.map_io.proofs.sink.write_all.Goals as goal

pub loop-done-preserved : goal.loop-done-preserved
loop-done-preserved g c =
    let done = c.loop-done.done in
    let bytes = c.args.bytes.now in
    let taken = c.in-Ok.taken in
    let bound = c.in-Ok.ensures.bound in
    let front = c.in-Ok.ensures.taken in
    let was = c.loop-done.invariant in
    let left : done < length bytes = omega (arith, c.loop-done-test.true) in
    let rest : take (length bytes - done) (drop done bytes) ≡ drop done bytes = take_rest bytes done in
    let size : length (take (length bytes - done) (drop done bytes)) ≡ length bytes - done = ap length rest ∙ length-drop done bytes in
    let moved = subst (λ l. Appends (g.K.Sink.told c.loop-done.sink).written (g.K.Sink.told c.write.new.self).written (take taken l)) rest front.written in
    record {
      within = omega (arith, size, bound.1, left);
      faults = front.faults ∙ was.faults;
      written = Appends-more _ _ _ bytes done taken was.written moved;
      no_piece = counts_none _ _ _ done taken (length bytes) _ (was.no_piece left) size front.pieces;
      one_piece = counts_one _ _ _ done taken _ (was.no_piece left) front.pieces bound.0;
    }
