-- Questions put to one level after another.
use Rattle.std.proofs.Common.{◌≡◌, ℕ, ◌+◌, List, [], ◌++◌, ◌∙◌, length, ap, arith}
use Rattle.std.proofs.lemmas.List.{length-append}
use Rattle.query_laws.specs.Decomposable.{IsDecomposable}
use Rattle.query_laws.proofs.Values.{join-values}
use Rattle.builder_trait.specs.Asking.{OpenQuestion}

module _ {Q I A : Type 0} {value : Q → List I → A} {join : Q → A → A → A} {unit : Q → A} {lawful : Q → A → Type 0}
    (laws : (q : Q) → IsDecomposable (value q) (join q) (unit q) (lawful q)) where
  -- an asking after so many more parts, with these items
  abbrev pub asked_over : OpenQuestion Q A → List I → ℕ → OpenQuestion Q A
  asked_over asking xs n = record asking {
    so_far = join asking.question asking.so_far (value asking.question xs);
    parts = asking.parts + n;
    live = asking.live + length xs;
  }

  -- no part
  pub asked_over-nothing : (asking : OpenQuestion Q A) → lawful asking.question asking.so_far → asked_over asking [] 0 ≡ asking
  asked_over-nothing asking h =
      let q = asking.question in
      let none : (n : ℕ) → n + 0 ≡ n = λ n. omega arith in
      let so_far : join q asking.so_far (value q []) ≡ asking.so_far = ap (join q asking.so_far) (laws q).of_nothing ∙ (laws q).neutral asking.so_far h in
      λ i. record asking { so_far = so_far i; parts = none asking.parts i; live = none asking.live i }

  -- some parts, and then others
  asked_over-both : (asking : OpenQuestion Q A) (xs ys : List I) (m n : ℕ) → lawful asking.question asking.so_far
      → asked_over (asked_over asking xs m) ys n ≡ asked_over asking (xs ++ ys) (m + n)
  asked_over-both asking xs ys m n h =
      let parts : asking.parts + m + n ≡ asking.parts + (m + n) = omega arith in
      let live : asking.live + length xs + length ys ≡ asking.live + length (xs ++ ys) = omega (arith, length-append xs ys) in
      let so_far = join-values (laws asking.question) asking.so_far xs ys h in
      λ i. record asking { so_far = so_far i; parts = parts i; live = live i }

  pub asked_over-then : (asking mid new : OpenQuestion Q A) (xs ys : List I) (m n : ℕ) {all : List I} {count : ℕ}
      → lawful asking.question asking.so_far → mid ≡ asked_over asking xs m → new ≡ asked_over mid ys n
      → xs ++ ys ≡ all → m + n ≡ count → new ≡ asked_over asking all count
  asked_over-then asking mid new xs ys m n {all} {count} h first second items sum =
      second ∙ ap (λ a. asked_over a ys n) first ∙ asked_over-both asking xs ys m n h
      ∙ ap (λ zs. asked_over asking zs (m + n)) items ∙ ap (asked_over asking all) sum
