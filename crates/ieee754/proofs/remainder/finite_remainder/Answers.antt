-- `finite_remainder` meets its contract: the rest of the digits, put together again with x's sign.
use Rattle.std.proofs.Common.{◌≡◌, ℕ, ◌-◌, ◌*◌, ◌%◌, ◌^◌, ◌<◌, ◌≤◌, true, false, not, T, sym, refl, ap, ◌∙◌, subst, add_comm, zero-add, le_of_lt, le_trans, le_of_eq}
use lib.Ieee.{Float, nan, inf, fin, binary64, fits, is_nan, of_bits, to_bits, nan_bits}
use lib.Ieee.Scale.{finite}
use Rattle.ieee754.specs.Code.Units.{digits, places}
use Rattle.ieee754.proofs.Fields.{no_nan, by_plus, by_minus}
use Rattle.ieee754.proofs.UnitPatterns.{digits_short, places_few}
use Rattle.ieee754.proofs.WholeRemainder.{divisor_low, divisor_digits, places_in, rest_short, whole_remainder}
use Rattle.ieee754.proofs.remainder.finite_remainder.Goals.{Start, After-rest_of-r}
use Rattle.ieee754.proofs.remainder.finite_remainder.Goals as goal

x_fits : (c : Start) → T (fits binary64 c.args.x)
x_fits c = subst T (sym c.well_formed.0.1) tt

y_fits : (c : Start) → T (fits binary64 c.args.y)
y_fits c = subst T (sym c.well_formed.1.0.1) tt

number : (x : Float) → T (finite x) → T (not (is_nan x))
unfolding is_nan
number nan h = absurd h
number (inf s) h = absurd h
number (fin s m e) h = tt

-- the rest that was computed is the one that is meant
computed : (a i j r m n k : ℕ) → i ≡ places k → j ≡ places a → m ≡ digits a → n ≡ digits k → r ≡ m * 2 ^ (j - i) % n → r ≡ digits a * 2 ^ (places a - places k) % digits k
computed a i j r m n k e f g h q = q ∙ rw (e, f, g, h) refl

places_left : (c : Start) → places (to_bits binary64 c.args.y % 2 ^ 63) ≤ places (to_bits binary64 c.args.x % 2 ^ 63)
places_left c = places_in c.args.x c.args.y (x_fits c) (y_fits c) c.requires.0 c.requires.1 c.requires.2 c.requires.3

pub float_to_bits-b : goal.float_to_bits-b
float_to_bits-b c = number c.args.x c.requires.0

pub float_to_bits-d : goal.float_to_bits-d
float_to_bits-d c = number c.args.y c.requires.1

pub overflow_sub-places : goal.overflow_sub-places
overflow_sub-places c = le_trans (le_of_eq c.places-i.ensures) (le_trans (places_left (goal.at.overflow_sub-places c).Start) (le_of_eq (sym c.places.ensures)))

pub rest_of-r-requires : goal.rest_of-r-requires
rest_of-r-requires c =
    let s = (goal.at.rest_of-r-requires c).Start in (
      subst (λ (n : ℕ). n < 2 ^ 53) (sym c.digits.ensures) (digits_short (to_bits binary64 c.args.x % 2 ^ 63)),
      subst (λ (n : ℕ). 0 < n) (sym c.digits-2.ensures) (divisor_digits c.args.x c.args.y (x_fits s) (y_fits s) c.requires.0 c.requires.1 c.requires.2 c.requires.3),
      subst (λ (n : ℕ). n < 2 ^ 53) (sym c.digits-2.ensures) (digits_short (to_bits binary64 c.args.y % 2 ^ 63)),
    )

-- the rest that was computed
rest_at : (c : After-rest_of-r) → c.rest_of-r.result ≡ digits (to_bits binary64 c.args.x % 2 ^ 63) * 2 ^ (places (to_bits binary64 c.args.x % 2 ^ 63) - places (to_bits binary64 c.args.y % 2 ^ 63)) % digits (to_bits binary64 c.args.y % 2 ^ 63)
rest_at c = computed _ _ _ _ _ _ _ c.places-i.ensures c.places.ensures c.digits.ensures c.digits-2.ensures c.rest_of-r.ensures

pub pattern_of-p-requires : goal.pattern_of-p-requires
pattern_of-p-requires c =
    let s = (goal.at.pattern_of-p-requires c).Start in (
      subst (λ (n : ℕ). n < 2 ^ 53) (sym (rest_at (goal.at.pattern_of-p-requires c).After-rest_of-r)) (rest_short c.args.x c.args.y (x_fits s) (y_fits s) c.requires.0 c.requires.1 c.requires.2 c.requires.3),
      subst (λ (n : ℕ). n < 2046) (sym c.places-i.ensures)
          (places_few (to_bits binary64 c.args.y % 2 ^ 63) (divisor_low c.args.x c.args.y (x_fits s) (y_fits s) c.requires.0 c.requires.1 c.requires.2 c.requires.3)),
    )

-- the pattern's value, of the rest that is meant
joined : (v r i n k : ℕ) → v ≡ r * 2 ^ i → r ≡ n → i ≡ k → v ≡ n * 2 ^ k
joined v r i n k e f g = e ∙ rw (f, g) refl

pub returns-then-b-lt9223372036854775808 : goal.returns-then-b-lt9223372036854775808
returns-then-b-lt9223372036854775808 c =
    let s = (goal.at.returns-then-b-lt9223372036854775808 c).Start in
    ap (of_bits binary64) (sym (zero-add c.pattern_of-p.result))
    ∙ whole_remainder c.args.x c.args.y (x_fits s) (y_fits s) c.requires.0 c.requires.1 c.requires.2 c.requires.3 false c.pattern_of-p.result
    (by_plus binary64 c.args.x (x_fits s) c.if-b-lt9223372036854775808.true) c.pattern_of-p.ensures.below
    (joined _ _ _ _ _ c.pattern_of-p.ensures.value (rest_at (goal.at.returns-then-b-lt9223372036854775808 c).After-rest_of-r) c.places-i.ensures)

pub float_from_bits-result-2 : goal.float_from_bits-result-2
float_from_bits-result-2 c =
    subst (λ (z : ℕ). T (not (nan_bits binary64 z))) (add_comm 0x8000_0000_0000_0000 c.pattern_of-p.result) (no_nan binary64 true c.pattern_of-p.result (le_of_lt c.pattern_of-p.ensures.below))

pub returns : goal.returns
returns c =
    let s = (goal.at.returns c).Start in
    ap (of_bits binary64) (add_comm c.pattern_of-p.result 0x8000_0000_0000_0000)
    ∙ whole_remainder c.args.x c.args.y (x_fits s) (y_fits s) c.requires.0 c.requires.1 c.requires.2 c.requires.3 true c.pattern_of-p.result
    (by_minus binary64 c.args.x (x_fits s) c.if-b-lt9223372036854775808.false) c.pattern_of-p.ensures.below
    (joined _ _ _ _ _ c.pattern_of-p.ensures.value (rest_at (goal.at.returns c).After-rest_of-r) c.places-i.ensures)
