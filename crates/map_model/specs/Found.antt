-- What questions for places find, and lists in ascending order.
use Rattle.std.specs.Prelude.{◌==◌, ℕ, Bool, ◌&&◌, ◌||◌, List, [], ◌∷◌, nat_le, nat_lt, if◌then◌else◌}

-- a point's squared distance and its identifier
pub record Found : Type 0 where
  pub dist : ℕ
  pub id : ℕ

-- a point's height and its identifier
pub record Peak : Type 0 where
  pub y : ℕ
  pub id : ℕ

-- the nearer one, and of two at one distance the lesser identifier
abbrev pub found_le : Found → Found → Bool
found_le a b = nat_lt a.dist b.dist || ((a.dist == b.dist) && nat_le a.id b.id)

-- the higher one, and of two at one height the lesser identifier
abbrev pub peak_le : Peak → Peak → Bool
peak_le a b = nat_lt b.y a.y || ((a.y == b.y) && nat_le a.id b.id)

-- an entry put before the first one that it doesn't come after
abbrev pub insert_by : {A : Type 0} → (A → A → Bool) → A → List A → List A
insert_by le x [] = x ∷ []
insert_by le x (y ∷ ys) = if le x y then x ∷ y ∷ ys else y ∷ insert_by le x ys

-- the same entries, each before those that it doesn't come after
abbrev pub sorted_by : {A : Type 0} → (A → A → Bool) → List A → List A
sorted_by le [] = []
sorted_by le (x ∷ xs) = insert_by le x (sorted_by le xs)
