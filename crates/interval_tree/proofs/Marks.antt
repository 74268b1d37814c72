-- What a mark does to the places of a part.
use Rattle.std.proofs.Common.{◌≡◌, ◌≢◌, ◌⊎◌, inl, inr, ℕ, zero, suc, ◌<◌, Bool, true, false, List, [], ◌∷◌, length, map, set, get_or, refl, sym, ap, ◌∙◌, arith, Some, slice_get, get_or-set_same, get_or-set_other}
use Rattle.std.specs.List.{zip}
use Rattle.std.proofs.lemmas.Bool.{cases_eq}
use Rattle.std.proofs.lemmas.Option.{slice_get_within, slice_get-get_or, get_or_from_slice_get}
use Rattle.std.proofs.lemmas.List.{length-map, length-set, get_or-map, same_lists}
use Rattle.weak_delete.specs.declared.place.Place.{Place}
use Rattle.weak_delete.specs.Places.{LivePlaces, IsBuilt, IsLive, cleared}
use Rattle.builder_trait.specs.Parts.{Contents}
use Rattle.builder_trait.specs.Rebuilding.{flags_reordered}
use Rattle.map_shapes.specs.declared.segment.Segment.{Segment}
use Rattle.interval_tree.specs.declared.trees.Trees.{Trees}
use Rattle.interval_tree.specs.Rows.{end_place, count_place, ends_of, lives_of, lives_reordered, IsIndexOf, AreOver}

-- the segment at a place dies
abbrev pub died : Contents Segment → ℕ → Contents Segment
died part place = record part { flags = set part.flags place false }

-- the flag of a place
abbrev flag_of : List Bool → ℕ → Bool
flag_of flags p = get_or flags p false

ends-cleared : (xs : List Segment) (flags : List Bool) (k : ℕ) → length flags ≡ length xs
    → cleared (map end_place (zip xs flags)) k ≡ map end_place (zip xs (set flags k false))
ends-cleared [] [] k e = refl
ends-cleared [] (flag ∷ flags) k e = absurd (omega arith)
ends-cleared (x ∷ xs) [] k e = absurd (omega arith)
ends-cleared (x ∷ xs) (flag ∷ flags) zero e = refl
ends-cleared (x ∷ xs) (flag ∷ flags) (suc k) e = ap (λ l. end_place (x, flag) ∷ l) (ends-cleared xs flags k (omega arith))

counts-cleared : (flags : List Bool) (k : ℕ) → cleared (map count_place flags) k ≡ map count_place (set flags k false)
counts-cleared [] k = refl
counts-cleared (flag ∷ flags) zero = refl
counts-cleared (flag ∷ flags) (suc k) = ap (λ l. count_place flag ∷ l) (counts-cleared flags k)

-- a place of the maximum is live as its flag says
ends-live : (xs : List Segment) (flags : List Bool) (k : ℕ) → length flags ≡ length xs → slice_get flags k ≡ Some true
    → IsLive (map end_place (zip xs flags)) k
ends-live [] [] k e at = absurd cc
ends-live [] (flag ∷ flags) k e at = absurd (omega arith)
ends-live (x ∷ xs) [] k e at = absurd cc
ends-live (x ∷ xs) (flag ∷ flags) zero e at = cc
ends-live (x ∷ xs) (flag ∷ flags) (suc k) e at = ends-live xs flags k (omega arith) at

-- and so is one of the counts
counts-live : (flags : List Bool) (k : ℕ) → slice_get flags k ≡ Some true → IsLive (map count_place flags) k
counts-live [] k at = absurd cc
counts-live (flag ∷ flags) zero at = cc
counts-live (flag ∷ flags) (suc k) at = counts-live flags k at

module _ (part : Contents Segment) (place : ℕ) (was_live : slice_get part.flags place ≡ Some true) where
  pub ends_of-live : length part.flags ≡ length part.items → IsLive (ends_of part) place
  ends_of-live e = ends-live part.items part.flags place e was_live

  pub lives_of-live : IsLive (lives_of part) place
  lives_of-live = counts-live part.flags place was_live

  pub ends_of-died : length part.flags ≡ length part.items → cleared (ends_of part) place ≡ ends_of (died part place)
  ends_of-died e = ends-cleared part.items part.flags place e

  pub lives_of-died : cleared (lives_of part) place ≡ lives_of (died part place)
  lives_of-died = counts-cleared part.flags place

  module _ (index : ℕ) (is : IsIndexOf part.places place index) where
    flag_here : slice_get (flags_reordered part) index ≡ Some true
    flag_here =
        let many : index < length (flags_reordered part) = omega (arith, is.within, length-map part.places (flag_of part.flags)) in
        slice_get-get_or (flags_reordered part) index false many
        ∙ ap Some (get_or-map (flag_of part.flags) part.places index 0 false is.within
        ∙ ap (flag_of part.flags) is.at_index
        ∙ get_or_from_slice_get part.flags place true false was_live)

    pub reordered-live : IsLive (lives_reordered part) index
    reordered-live = counts-live (flags_reordered part) index flag_here

    -- the flag falls where the second order has it, and nowhere else
    flags_reordered-died : set (flags_reordered part) index false ≡ flags_reordered (died part place)
    flags_reordered-died =
        same_lists (set (flags_reordered part) index false) (flags_reordered (died part place))
        (length-set (flags_reordered part) index false ∙ length-map part.places (flag_of part.flags) ∙ sym (length-map part.places (flag_of (set part.flags place false))))
        (λ k d below.
        let inside : k < length part.places = omega (arith, length-set (flags_reordered part) index false, length-map part.places (flag_of part.flags)) in
        by k d inside (cases_eq k index))
      where
        by : (k : ℕ) (d : Bool) → k < length part.places → (k ≡ index) ⊎ (k ≢ index)
            → get_or (set (map (flag_of part.flags) part.places) index false) k d ≡ get_or (map (flag_of (set part.flags place false)) part.places) k d
        by k d inside (inl same) =
            ap (λ i. get_or (set (map (flag_of part.flags) part.places) index false) i d) same
            ∙ get_or-set_same (map (flag_of part.flags) part.places) index false d (omega (arith, inside, length-map part.places (flag_of part.flags)))
            ∙ sym (get_or-map (flag_of (set part.flags place false)) part.places k 0 d inside ∙ ap (λ i. flag_of (set part.flags place false) (get_or part.places i 0)) same ∙ ap (flag_of (set part.flags place false)) is.at_index
            ∙ get_or-set_same part.flags place false false (slice_get_within part.flags place true was_live))
        by k d inside (inr other) =
            get_or-set_other (map (flag_of part.flags) part.places) index k false d other
            ∙ get_or-map (flag_of part.flags) part.places k 0 d inside
            ∙ sym (get_or-map (flag_of (set part.flags place false)) part.places k 0 d inside
            ∙ get_or-set_other part.flags place (get_or part.places k 0) false false (λ at. other (is.alone k inside at)))

    pub reordered-died : cleared (lives_reordered part) index ≡ lives_reordered (died part place)
    reordered-died = counts-cleared (flags_reordered part) index ∙ ap (map count_place) flags_reordered-died

-- places that are cleared leave all else as it is
built-still : {s t : LivePlaces} (ps : List Place) → t ≡ record s { places = ps } → IsBuilt s → IsBuilt t
built-still ps is built = record { sealed = ap (λ t. t.sealed) is ∙ built.sealed; turned = ap (λ t. t.left) is ∙ built.turned }

-- the trees after a mark
pub AreOver-died : (part : Contents Segment) {trees new : Trees} (place index : ℕ) → AreOver part trees → slice_get part.flags place ≡ Some true
    → IsIndexOf part.places place index
    → new.ends ≡ record trees.ends { places = cleared trees.ends.places place }
    → new.by_lower ≡ record trees.by_lower { places = cleared trees.by_lower.places place }
    → new.by_upper ≡ record trees.by_upper { places = cleared trees.by_upper.places index }
    → AreOver (died part place) new
AreOver-died part {trees} place index over was_live is ends by_lower by_upper = record {
  few = over.few;
  flagged = length-set part.flags place false ∙ over.flagged;
  ends_built = built-still (cleared trees.ends.places place) ends over.ends_built;
  ends = ap (λ t. t.places) ends ∙ ap (λ ps. cleared ps place) over.ends ∙ ends_of-died part place was_live over.flagged;
  by_lower_built = built-still (cleared trees.by_lower.places place) by_lower over.by_lower_built;
  by_lower = ap (λ t. t.places) by_lower ∙ ap (λ ps. cleared ps place) over.by_lower ∙ lives_of-died part place was_live;
  by_upper_built = built-still (cleared trees.by_upper.places index) by_upper over.by_upper_built;
  by_upper = ap (λ t. t.places) by_upper ∙ ap (λ ps. cleared ps index) over.by_upper ∙ reordered-died part place was_live index is;
}
