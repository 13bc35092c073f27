-- A correction of two halves by the first channel's phase, by blocks: between the channels every entry stays +0, and each half goes its own way.
use mathlib.Core.Path.{◌≡◌, sym, ap, ◌∙◌, subst}
use mathlib.Core.Bool.{true}
use mathlib.Core.List.{List, [], ◌∷◌}
use lib.Dec.{T}
use lib.Ieee.{Float, binary64, fits, is_nan, lt, of_bits, le}
use lib.Ieee.Bits.{of_bits-fits}
use lib.Ieee.Fits.{cond-fits}
use lib.Ieee.Scale.{finite}
use lib.Ieee.Positive.{positive, above, above_of_le}
use Rattle.ieee754.specs.Binary64.{plus, minus, times, zero, ten_to_minus12, ten_to_minus15}
use Rattle.ieee754.specs.Order.{maximum}
use Rattle.tracker_covariance.specs.Correction.{gain_of, joseph_left, joseph_right, corrected}
use Rattle.tracker_block_diagonal.specs.declared.half.Gain.{Gain}
use Rattle.tracker_block_diagonal.specs.declared.half.Half.{Half}
use Rattle.tracker_block_diagonal.specs.Code.Joined.{gains}
use Rattle.tracker_block_diagonal.specs.Code.HalfCorrection.{half_gain, half_floored, half_left, half_right, right_entry, shifted}
use Rattle.tracker_block_diagonal.proofs.Finite.{first_term, second_term, minuend, subtrahend, first_factor}
use Rattle.tracker_block_diagonal.proofs.Zeros.{plus_zero_lem, zero_by, by_zero, plus_a_zero, minus_a_zero, zero_square, minus_zero_square, over_above}
use Rattle.tracker_block_diagonal.proofs.Blocks.{blocks, alike, no_gain, left_of, right_of, gain_blocks, floored_blocks, left_blocks, right_blocks}

-- ---- the gain

pub gain_apart : (a d : Half) (s : Float) → T (above s) → gains (half_gain a s) ≡ gain_of (blocks a (alike zero) (alike zero) d) 0 s
gain_apart a d s h =
    let e = over_above s h in
    let k = half_gain a s in
    sym (gain_blocks a (alike zero) (alike zero) d s ∙ (λ j. k.p ∷ k.f ∷ k.c ∷ e j ∷ e j ∷ e j ∷ []))

-- ---- what the channels share

pub record FiniteGain (k : Gain) : Type 0 where
  pub p : finite k.p ≡ true
  pub f : finite k.f ≡ true
  pub c : finite k.c ≡ true

-- the phase's row
pub record FiniteRow (h : Half) : Type 0 where
  pub p : finite h.pp ≡ true
  pub f : finite h.pf ≡ true
  pub c : finite h.pc ≡ true

-- the phase's column
pub record FiniteColumn (h : Half) : Type 0 where
  pub p : finite h.pp ≡ true
  pub f : finite h.fp ≡ true
  pub c : finite h.cp ≡ true

left_beside : (k : Gain) → FiniteGain k → left_of (alike zero) (alike zero) k ≡ alike zero
left_beside k h =
    let e : (x : Float) → finite x ≡ true → minus zero (times x zero) ≡ zero = λ x g. minus_a_zero (by_zero x g) in
    λ j.
    record {
      pp = e k.p h.p j;
      pf = e k.p h.p j;
      pc = e k.p h.p j;
      fp = e k.f h.f j;
      ff = e k.f h.f j;
      fc = e k.f h.f j;
      cp = e k.c h.c j;
      cf = e k.c h.c j;
      cc = e k.c h.c j;
    }

left_below : (u : Half) → FiniteRow u → left_of (alike zero) u no_gain ≡ alike zero
left_below u h =
    let e : (x : Float) → finite x ≡ true → minus zero (times zero x) ≡ zero = λ x g. minus_a_zero (zero_by x plus_zero_lem g) in
    λ j.
    record {
      pp = e u.pp h.p j;
      pf = e u.pf h.f j;
      pc = e u.pc h.c j;
      fp = e u.pp h.p j;
      ff = e u.pf h.f j;
      fc = e u.pc h.c j;
      cp = e u.pp h.p j;
      cf = e u.pf h.f j;
      cc = e u.pc h.c j;
    }

-- t and k are factors of the 0 of a column that has no gain
beside : (t k noise : Float) → finite t ≡ true → finite k ≡ true → finite noise ≡ true → right_entry zero t k zero noise ≡ zero
beside t k noise ht hk hn =
    ap (λ (x : Float). plus x (times (times k zero) noise)) (minus_a_zero (by_zero t ht)) ∙ plus_a_zero (zero_by noise (by_zero k hk) hn)

-- k is a factor of the 0 of a row that has no gain
below : (k noise : Float) → finite k ≡ true → finite noise ≡ true → right_entry zero zero zero k noise ≡ zero
below k noise hk hn =
    ap (λ (x : Float). plus x (times (times zero k) noise)) (minus_a_zero (zero_by k plus_zero_lem hk)) ∙ plus_a_zero (zero_by noise (zero_by k plus_zero_lem hk) hn)

right_beside : (u : Half) (k : Gain) (noise : Float) → FiniteColumn u → FiniteGain k → finite noise ≡ true → right_of (alike zero) u k no_gain noise ≡ alike zero
right_beside u k noise hu hk hn =
    λ j.
    record {
      pp = beside u.pp k.p noise hu.p hk.p hn j;
      pf = beside u.pp k.p noise hu.p hk.p hn j;
      pc = beside u.pp k.p noise hu.p hk.p hn j;
      fp = beside u.fp k.f noise hu.f hk.f hn j;
      ff = beside u.fp k.f noise hu.f hk.f hn j;
      fc = beside u.fp k.f noise hu.f hk.f hn j;
      cp = beside u.cp k.c noise hu.c hk.c hn j;
      cf = beside u.cp k.c noise hu.c hk.c hn j;
      cc = beside u.cp k.c noise hu.c hk.c hn j;
    }

right_below : (k : Gain) (noise : Float) → FiniteGain k → finite noise ≡ true → right_of (alike zero) (alike zero) no_gain k noise ≡ alike zero
right_below k noise hk hn =
    λ j.
    record {
      pp = below k.p noise hk.p hn j;
      pf = below k.f noise hk.f hn j;
      pc = below k.c noise hk.c hn j;
      fp = below k.p noise hk.p hn j;
      ff = below k.f noise hk.f hn j;
      fc = below k.c noise hk.c hn j;
      cp = below k.p noise hk.p hn j;
      cf = below k.f noise hk.f hn j;
      cc = below k.c noise hk.c hn j;
    }

-- ---- the second half

pub record Fits (h : Half) : Type 0 where
  pub pp : T (fits binary64 h.pp)
  pub pf : T (fits binary64 h.pf)
  pub pc : T (fits binary64 h.pc)
  pub fp : T (fits binary64 h.fp)
  pub ff : T (fits binary64 h.ff)
  pub fc : T (fits binary64 h.fc)
  pub cp : T (fits binary64 h.cp)
  pub cf : T (fits binary64 h.cf)
  pub cc : T (fits binary64 h.cc)

left_second : (d : Half) → Fits d → left_of d (alike zero) no_gain ≡ d
left_second d h =
    λ j.
    record {
      pp = minus_zero_square d.pp h.pp j;
      pf = minus_zero_square d.pf h.pf j;
      pc = minus_zero_square d.pc h.pc j;
      fp = minus_zero_square d.fp h.fp j;
      ff = minus_zero_square d.ff h.ff j;
      fc = minus_zero_square d.fc h.fc j;
      cp = minus_zero_square d.cp h.cp j;
      cf = minus_zero_square d.cf h.cf j;
      cc = minus_zero_square d.cc h.cc j;
    }

-- all that is left is 0 times the noise
alone : (x noise : Float) → T (fits binary64 x) → right_entry x zero zero zero noise ≡ plus x (times zero noise)
alone x noise h = λ j. plus (minus_zero_square x h j) (times (zero_square j) noise)

right_second : (d : Half) (noise : Float) → Fits d → right_of d (alike zero) no_gain no_gain noise ≡ shifted d (times zero noise)
right_second d noise h =
    λ j.
    record {
      pp = alone d.pp noise h.pp j;
      pf = alone d.pf noise h.pf j;
      pc = alone d.pc noise h.pc j;
      fp = alone d.fp noise h.fp j;
      ff = alone d.ff noise h.ff j;
      fc = alone d.fc noise h.fc j;
      cp = alone d.cp noise h.cp j;
      cf = alone d.cf noise h.cf j;
      cc = alone d.cc noise h.cc j;
    }

-- the floor keeps what it does not raise
floor_fits : (x : Float) → T (fits binary64 x) → T (fits binary64 (maximum x ten_to_minus15))
floor_fits x h =
    let l = of_bits-fits binary64 0x3cd2_03af_9ee7_5616 in
    cond-fits binary64 (is_nan x) _ _ l (cond-fits binary64 (lt x ten_to_minus15) _ _ l h)

pub floored_fits : (d : Half) → Fits d → Fits (half_floored d)
floored_fits d h =
    record {
      pp = floor_fits d.pp h.pp;
      pf = h.pf;
      pc = h.pc;
      fp = h.fp;
      ff = floor_fits d.ff h.ff;
      fc = h.fc;
      cp = h.cp;
      cf = h.cf;
      cc = floor_fits d.cc h.cc;
    }

-- ---- both

pub corrected_blocks : (a d : Half) (k : Gain) (noise : Float)
    → FiniteGain k → FiniteRow (half_floored a) → FiniteColumn (half_left (half_floored a) k) → Fits (half_floored d) → finite noise ≡ true
    → corrected (blocks a (alike zero) (alike zero) d) 0 (gains k) noise
    ≡ blocks (half_right (half_left (half_floored a) k) k noise) (alike zero) (alike zero) (shifted (half_floored d) (times zero noise))
unfolding corrected
corrected_blocks a d k noise hk row column fit hn =
    let o = alike zero in
    let f = half_floored a in
    let g = half_floored d in
    let t = half_left f k in
    let step : List Float → List Float = λ m. joseph_right m 0 (gains k) noise in
    ap (λ (m : List Float). step (joseph_left m 0 (gains k))) (floored_blocks a o o d)
    ∙ ap step
    (left_blocks f o o g k ∙ (λ j. blocks t (left_beside k hk j) (left_below f row j) (left_second g fit j)))
    ∙ right_blocks t o o g k noise
    ∙ (λ j. blocks (half_right t k noise) (right_beside t k noise column hk hn j) (right_below k noise hk hn j) (right_second g noise fit j))

-- ---- the test

-- what one finite sum tells of its terms and of the factors in them
pub record Finite (f : Half) (k : Gain) (noise : Float) : Type 0 where
  pub gain : FiniteGain k
  pub row : FiniteRow f
  pub column : FiniteColumn (half_left f k)
  pub measured : finite noise ≡ true

pub all_finite : (pp : Float) (f : Half) (k : Gain) (noise : Float)
    → let t = half_left f k in
    finite (plus (plus (plus (plus (plus (plus pp noise) f.pf) f.pc) t.pp) t.fp) t.cp) ≡ true
    → Finite f k noise
all_finite pp f k noise h =
    let t = half_left f k in
    let b = binary64 in
    let s0 = plus pp noise in
    let s1 = plus s0 f.pf in
    let s2 = plus s1 f.pc in
    let s3 = plus s2 t.pp in
    let s4 = plus s3 t.fp in
    let h4 = first_term b s4 t.cp h in
    let h3 = first_term b s3 t.fp h4 in
    let h2 = first_term b s2 t.pp h3 in
    let h1 = first_term b s1 f.pc h2 in
    let h0 = first_term b s0 f.pf h1 in
    let tc = second_term b s4 t.cp h in
    let tf = second_term b s3 t.fp h4 in
    let tp = second_term b s2 t.pp h3 in
    record {
      gain =
          record {
            p = first_factor b k.p f.pp (subtrahend b f.pp (times k.p f.pp) tp);
            f = first_factor b k.f f.pp (subtrahend b f.fp (times k.f f.pp) tf);
            c = first_factor b k.c f.pp (subtrahend b f.cp (times k.c f.pp) tc);
          };
      row = record { p = minuend b f.pp (times k.p f.pp) tp; f = second_term b s0 f.pf h1; c = second_term b s1 f.pc h2 };
      column = record { p = tp; f = tf; c = tc };
      measured = second_term b pp noise h0;
    }

-- a sum of at least 1e-12 is above 0
pub gain_taken : (s : Float) → le ten_to_minus12 s ≡ true → T (above s)
unfolding of_bits
gain_taken s h = above_of_le ten_to_minus12 s least (subst T (sym h) tt)
  where
    least : T (positive ten_to_minus12)
    least = tt
