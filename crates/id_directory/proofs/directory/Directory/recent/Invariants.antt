use Rattle.id_directory.proofs.Latest.{HasWalked}
use Rattle.id_directory.proofs.directory.Directory.recent.Given as goal

abbrev pub invariant-loop-done : goal.invariant-loop-done
invariant-loop-done g l = HasWalked g.I.Named.id l.self-inside.chain.entries l._done l.recent l.at
