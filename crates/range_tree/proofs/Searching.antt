-- What binary searches in x, and in the entries of the first row, need and find.
use Rattle.std.proofs.Common.{◌≡◌, ℕ, ◌<◌, ◌≤◌, List, [], ◌∷◌, length, map, get_or, Some, slice_get, arith, subst, sym, ap, ◌∙◌}
use Rattle.std.specs.Option.{option_map}
use Rattle.std.proofs.lemmas.List.{get_or-map, length-map}
use Rattle.std.proofs.lemmas.Option.{get_or_from_slice_get, slice_get_within, slice_get-map}
use Rattle.query_laws.specs.declared.item.Order.TheVariants.{First}
use Rattle.builder_trait.specs.Parts
use Rattle.builder_trait.specs.Search.{PassesUpTo}
use Rattle.map_shapes.specs.declared.point.Point.{Point}
use Rattle.map_structures.specs.declared.reach.Reach.{Reach}
use Rattle.range_tree.specs.Tree.{before}
use Rattle.map_structures.specs.Reach.{reaches}
use Rattle.map_structures.proofs.Reaching.{reaches-down, abscissa-from_before}

-- numbers that don't fall are reached up to some of them
pub PassesUpTo-numbers : {A : Type 0} (number : A → ℕ) (reach : Reach) (xs : List A) (low high : ℕ) → high ≤ length xs
    → ((k l : ℕ) (d : A) → k < l → l < length xs → number (get_or xs k d) ≤ number (get_or xs l d))
    → PassesUpTo (λ a. reaches reach (number a)) xs low high
PassesUpTo-numbers number reach xs low high within rising k l d above less below passed =
    reaches-down reach (number (get_or xs k d)) (number (get_or xs l d)) (rising k l d less (omega arith)) passed

-- x of points in the first order don't fall
rising_x : (points : List Point) → Parts.IsRising (before First) points → (k l d : ℕ) → k < l → l < length (map (λ (p : Point). p.x) points)
    → get_or (map (λ (p : Point). p.x) points) k d ≤ get_or (map (λ (p : Point). p.x) points) l d
rising_x [] rising k l d less inside = absurd (omega arith)
rising_x (p ∷ ps) rising k l d less inside =
    let many = length-map (p ∷ ps) (λ (q : Point). q.x) in
    omega (
      arith,
      get_or-map (λ (q : Point). q.x) (p ∷ ps) k p d (omega arith),
      get_or-map (λ (q : Point). q.x) (p ∷ ps) l p d (omega arith),
      abscissa-from_before (get_or (p ∷ ps) k p) (get_or (p ∷ ps) l p) (rising k l p less (omega arith)),
    )

pub PassesUpTo-xs : (reach : Reach) (points : List Point) (xs : List ℕ) (low high : ℕ) → xs ≡ map (λ (p : Point). p.x) points
    → Parts.IsRising (before First) points → high ≤ length xs → PassesUpTo (λ x. reaches reach x) xs low high
PassesUpTo-xs reach points xs low high is rising within =
    PassesUpTo-numbers (λ x. x) reach xs low high within
    (λ k l d less inside.
    subst (λ (ys : List ℕ). l < length ys → get_or ys k d ≤ get_or ys l d) (sym is) (rising_x points rising k l d less) inside)

-- what stands where a point does
pub mapped_at : {A : Type 0} (f : Point → A) (points : List Point) (xs : List A) (k : ℕ) (p : Point) → xs ≡ map f points → slice_get points k ≡ Some p
    → slice_get xs k ≡ Some (f p)
mapped_at f points xs k p is at = ap (λ ys. slice_get ys k) is ∙ slice_get-map f points k ∙ ap (option_map f) at

pub mapped_holds : {A : Type 0} (P : A → Type 0) (xs : List A) (k : ℕ) (x : A) → slice_get xs k ≡ Some x → (k < length xs → P (get_or xs k x)) → P x
mapped_holds P xs k x at holds = subst P (get_or_from_slice_get xs k x x at) (holds (slice_get_within xs k x at))
