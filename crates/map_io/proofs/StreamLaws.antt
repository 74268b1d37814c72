-- What calls that follow one another do to told bytes; `Rattle.std.proofs.KnownBytes` has the rest.
use Rattle.std.proofs.Common.{◌≡◌, ℕ, ◌+◌, ◌≤◌, List, ◌++◌, None, Some, ◌-◌, length, take, drop, take-add, take-append-drop, drop-drop, sym, ap, subst, ◌∙◌, arith}
use Rattle.std.specs.Prelude.{Option}
use Rattle.std.proofs.Math.Seq.{take-append_seam, take-append-add}
use Rattle.std.proofs.lemmas.List.{take-append-le, length-take-le}
use Rattle.std.specs.Io.KnownBytes.{Keeps, Appends, Consumes}
use Rattle.std.proofs.KnownBytes.{Appends-trans, Consumes-trans}

-- a call that took nothing, and then one that took bs
pub Consumes-after_kept : (a b c : Option (List ℕ)) (bs : List ℕ) → Keeps a b → Consumes b c bs → Consumes a c bs
Consumes-after_kept None b c bs p q = tt
Consumes-after_kept (Some x) None c bs p q = absurd p
Consumes-after_kept (Some x) (Some y) None bs p q = absurd q
Consumes-after_kept (Some x) (Some y) (Some z) bs p q = sym p ∙ q

-- a call that appended nothing, and then one that appended bs
pub Appends-after_kept : (a b c : Option (List ℕ)) (bs : List ℕ) → Keeps a b → Appends b c bs → Appends a c bs
Appends-after_kept None b c bs p q = tt
Appends-after_kept (Some x) None c bs p q = absurd p
Appends-after_kept (Some x) (Some y) None bs p q = absurd q
Appends-after_kept (Some x) (Some y) (Some z) bs p q = q ∙ ap (λ l. l ++ bs) p

-- the first n bytes of bs were appended, and then m more
pub Appends-more : (a b c : Option (List ℕ)) (bs : List ℕ) (n m : ℕ) → Appends a b (take n bs) → Appends b c (take m (drop n bs)) → Appends a c (take (n + m) bs)
Appends-more a b c bs n m p q = subst (Appends a c) (sym (take-add n m bs)) (Appends-trans a b c _ _ p q)

-- the n bytes at t were copied to the front of into
pub take-copied : (bytes into copied : List ℕ) (t n : ℕ) → copied ≡ take (t + n - t) (drop t bytes) → length copied ≡ n
    → drop t bytes ≡ take n (copied ++ drop n into) ++ drop (t + n) bytes
take-copied bytes into copied t n e size =
    let same : t + n - t ≡ n = omega arith in
    let front : take n (copied ++ drop n into) ≡ copied = subst (λ k. take k (copied ++ drop n into) ≡ copied) size (take-append_seam copied (drop n into)) in
    let is : copied ≡ take n (drop t bytes) = e ∙ ap (λ k. take k (drop t bytes)) same in
    let whole : take n (drop t bytes) ++ drop n (drop t bytes) ≡ drop t bytes = take-append-drop n (drop t bytes) in
    let back : drop n (drop t bytes) ≡ drop (t + n) bytes = drop-drop n t bytes in
    sym (ap (λ l. l ++ drop (t + n) bytes) (front ∙ is) ∙ ap (λ l. take n (drop t bytes) ++ l) (sym back) ∙ whole)
