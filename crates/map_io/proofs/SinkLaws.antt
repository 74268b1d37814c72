-- What follows on one another writings and calls do to what a sink tells.
use Rattle.std.proofs.Common.{◌≡◌, ◌==◌, ℕ, ◌+◌, ◌-◌, ◌<◌, ◌≤◌, Bool, true, false, min, List, [], ◌++◌, None, Some, length, take, arith, refl, sym, ap, ◌∙◌, subst, if◌then◌else◌, length-append, take-append-drop}
use Rattle.std.specs.Prelude.{Option}
use Rattle.std.specs.Io.KnownBytes.{Appends}
use Rattle.std.proofs.KnownBytes.{Appends-nil, Appends-trans}
use Rattle.std.proofs.Math.Seq.{take-append-add}
use Rattle.std.proofs.lemmas.List.{take-append-le}
use Rattle.std.proofs.lemmas.Bool.Decides.{nat_tests}
use Rattle.map_io.specs.Calls.{counted}
use Rattle.map_io.specs.SinkTold.{SinkTold, CountsMore, CountsAtMost, Delivers, CutOff}

-- ---- told counts

pub CountsAtMost-zero : (a : Option ℕ) → CountsAtMost a a 0
CountsAtMost-zero None = tt
CountsAtMost-zero (Some a) = omega arith

pub CountsAtMost-trans : (a b c : Option ℕ) (m n : ℕ) → CountsAtMost a b m → CountsAtMost b c n → CountsAtMost a c (m + n)
CountsAtMost-trans None b c m n p q = tt
CountsAtMost-trans (Some a) None c m n p q = absurd p
CountsAtMost-trans (Some a) (Some b) None m n p q = absurd q
CountsAtMost-trans (Some a) (Some b) (Some c) m n p q = omega (arith, p, q)

pub CountsAtMost-weaker : (a b : Option ℕ) (m n : ℕ) → m ≤ n → CountsAtMost a b m → CountsAtMost a b n
CountsAtMost-weaker None b m n le p = tt
CountsAtMost-weaker (Some a) None m n le p = absurd p
CountsAtMost-weaker (Some a) (Some b) m n le p = omega (arith, p, le)

pub CountsAtMost-from_more : (a b : Option ℕ) (n : ℕ) → CountsMore a b n → CountsAtMost a b n
CountsAtMost-from_more None b n p = tt
CountsAtMost-from_more (Some a) None n p = absurd p
CountsAtMost-from_more (Some a) (Some b) n p = omega (arith, p)

-- ---- writings

pub Delivers-nil : (a : SinkTold) → Delivers a a [] 0
Delivers-nil a = record { written = Appends-nil a.written; pieces = CountsAtMost-zero a.pieces; faults = refl }

pub Delivers-trans : (a b c : SinkTold) (bs cs : List ℕ) (m n : ℕ) → Delivers a b bs m → Delivers b c cs n → Delivers a c (bs ++ cs) (m + n)
Delivers-trans a b c bs cs m n p q = record {
  written = Appends-trans a.written b.written c.written bs cs p.written q.written;
  pieces = CountsAtMost-trans a.pieces b.pieces c.pieces m n p.pieces q.pieces;
  faults = q.faults ∙ p.faults;
}

-- of the same bytes and a bound that isn't less
pub Delivers-within : (a b : SinkTold) (bs : List ℕ) (m n : ℕ) → m ≤ n → Delivers a b bs m → Delivers a b bs n
Delivers-within a b bs m n le p = record { written = p.written; pieces = CountsAtMost-weaker a.pieces b.pieces m n le p.pieces; faults = p.faults }

pub CutOff-within : (a b : SinkTold) (bs : List ℕ) (m n : ℕ) → m ≤ n → CutOff a b bs m → CutOff a b bs n
CutOff-within a b bs m n le p = record { written = p.written; pieces = CountsAtMost-weaker a.pieces b.pieces m n le p.pieces; faults = p.faults }

-- some bytes were written, and then a proper prefix of others
pub CutOff-after : (a b c : SinkTold) (bs cs : List ℕ) (m n : ℕ) → Delivers a b bs m → CutOff b c cs n → CutOff a c (bs ++ cs) (m + n)
CutOff-after a b c bs cs m n p q = record {
  written = (
    length bs + q.written.0,
    omega (arith, q.written.1, length-append bs cs),
    subst (λ l. Appends a.written c.written l) (sym (take-append-add bs cs q.written.0)) (Appends-trans a.written b.written c.written bs (take q.written.0 cs) p.written q.written.2),
  );
  pieces = CountsAtMost-trans a.pieces b.pieces c.pieces m n p.pieces q.pieces;
  faults = q.faults ∙ ap counted p.faults;
}

-- a proper prefix of the front is one of all
pub CutOff-append : (a b : SinkTold) (bs cs : List ℕ) (n : ℕ) → CutOff a b bs n → CutOff a b (bs ++ cs) n
CutOff-append a b bs cs n p = record {
  written = (
    p.written.0,
    omega (arith, p.written.1, length-append bs cs),
    subst (λ l. Appends a.written b.written l) (sym (take-append-le p.written.0 bs cs (let le : p.written.0 ≤ length bs = omega (arith, p.written.1) in le))) p.written.2,
  );
  pieces = p.pieces;
  faults = p.faults;
}

-- ---- a call that is handed all that is left

counts_by : (a b : Option ℕ) (whole : Bool) → CountsMore a b (if whole then 1 else 0) → CountsAtMost a b 1
counts_by a b true p = CountsAtMost-from_more a b 1 p
counts_by a b false p = CountsAtMost-weaker a b 0 1 (omega arith) (CountsAtMost-from_more a b 0 p)

-- none took all before it, and it does only where nothing is left then
pub counts_none : (a b c : Option ℕ) (done taken all rest : ℕ) → CountsAtMost a b 0 → rest ≡ all - done → CountsMore b c (if taken == rest then 1 else 0) → done + taken < all
    → CountsAtMost a c 0
counts_none a b c done taken all rest p is q left =
    let short : (taken == rest) ≡ false = grind (arith, nat_tests, is, left) in
    CountsAtMost-trans a b c 0 0 p (CountsAtMost-from_more b c 0 (subst (λ w. CountsMore b c (if w then 1 else 0)) short q))

pub counts_one : (a b c : Option ℕ) (done taken rest : ℕ) → CountsAtMost a b 0 → CountsMore b c (if taken == rest then 1 else 0) → 1 ≤ taken → CountsAtMost a c (min 1 (done + taken))
counts_one a b c done taken rest p q some =
    CountsAtMost-weaker a c (0 + 1) (min 1 (done + taken)) (omega (arith, some)) (CountsAtMost-trans a b c 0 1 p (counts_by b c (taken == rest) q))
