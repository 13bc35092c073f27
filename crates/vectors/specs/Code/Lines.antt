-- What stands at the places of a line of numbers, counted from 0. Behind the line's end every number is 0, and nothing stands there.
-- Definitions only.
use Rattle.std.specs.Prelude.{List, [], ◌∷◌, Bool, true, false, cond, ℕ, zero, suc, ◌+◌, ◌%◌, ◌^◌, eqb, Float, length, drop, get_or, Option, Some, None}
use denote.Ref.{Bor}
use Rattle.std.specs.Float.{binary32, binary64}
use Rattle.std.specs.Float.Ieee.{of_bits}

-- number i of a line
unfoldable pub number_at : ℕ → List ℕ → ℕ
number_at i ws = get_or ws i 0

-- a mark is 1 or 0
abbrev pub mark_number : Bool → ℕ
mark_number m = cond m 1 0

-- it is set where the number is 1
unfoldable pub mark_at : ℕ → List ℕ → Bool
mark_at i ws = eqb (number_at i ws) 1

-- the f32 whose pattern stands in the lower half of a number
unfoldable pub single : ℕ → Float
single n = of_bits binary32 (n % 2 ^ 32)

-- the float whose pattern the number is; an f32's stands in the lower half
unfoldable pub float64_at : ℕ → List ℕ → Float
float64_at i ws = of_bits binary64 (number_at i ws)

unfoldable pub float32_at : ℕ → List ℕ → Float
float32_at i ws = single (number_at i ws)

-- what f has at n places, from place i on
unfoldable pub from_place {ℓ} : {A : Type ℓ} → (ℕ → A) → ℕ → ℕ → List A
from_place f i zero = []
from_place f i (suc n) = f i ∷ from_place f (i + 1) n

-- n values from the start of a line, where f is what stands at a place
unfoldable pub values_in {ℓ} : {A : Type ℓ} → (ℕ → List ℕ → A) → ℕ → List ℕ → List A
values_in f n ws = from_place (λ k. f k ws) 0 n

-- n floats, from place i on
abbrev pub float64s_at : ℕ → ℕ → List ℕ → List Float
float64s_at i n ws = values_in float64_at n (drop i ws)

-- a list is its count and its values; and what is left of the line behind it
unfoldable pub list_in {ℓ} : {A : Type ℓ} → (ℕ → List ℕ → A) → List ℕ → List A
list_in f ws = values_in f (number_at 0 ws) (drop 1 ws)

unfoldable pub behind_list : List ℕ → List ℕ
behind_list ws = drop (number_at 0 ws) (drop 1 ws)

-- what is left of a line behind the numbers that it begins with; none where it begins otherwise
unfoldable pub strip : List ℕ → List ℕ → Option (List ℕ)
strip [] ws = Some ws
strip (a ∷ e) [] = None
strip (a ∷ e) (b ∷ ws) = cond (eqb a b) (strip e ws) None

-- what is left, as the code answers it
abbrev pub left_of : Option (Bor (List ℕ)) → Option (List ℕ)
left_of None = None
left_of (Some s) = Some s.now

-- nothing is left
unfoldable pub is_end : Option (List ℕ) → Bool
is_end None = false
is_end (Some []) = true
is_end (Some (w ∷ ws)) = false

-- a line, or what is left of one, has just these numbers
unfoldable pub is_rest : List ℕ → List ℕ → Bool
is_rest expected ws = is_end (strip expected ws)

-- the line has just i numbers
unfoldable pub ends_at : ℕ → List ℕ → Bool
ends_at i ws = eqb (length ws) i
