-- A matrix of 6 by 6 as four blocks of 3 by 3, each written as a half: what the steps of a prediction and of a correction make of the blocks, for
-- any entries. Each is the step's definition, written out.
use mathlib.Core.Path.{◌≡◌, refl}
use mathlib.Core.List.{List, [], ◌∷◌}
use lib.Ieee.{Float}
use Rattle.ieee754.specs.Binary64.{plus, minus, times, over, zero}
use Rattle.tracker_covariance.specs.Matrix.{matrix}
use Rattle.tracker_covariance.specs.Transition.{by_f, by_ft}
use Rattle.tracker_covariance.specs.ProcessNoise.{noise_table}
use Rattle.tracker_covariance.specs.Prediction.{sum_of, mean_of}
use Rattle.tracker_covariance.specs.Correction.{gain_of, floored, joseph_left, joseph_right}
use Rattle.tracker_covariance.specs.declared.prediction.ProcessNoise.{ProcessNoise}
use Rattle.tracker_block_diagonal.specs.declared.half.Gain.{Gain}
use Rattle.tracker_block_diagonal.specs.declared.half.Half.{Half}
use Rattle.tracker_block_diagonal.specs.Code.Joined.{gains}
use Rattle.tracker_block_diagonal.specs.Code.HalfPrediction.{moved_rows, moved_columns, mean_of_two}
use Rattle.tracker_block_diagonal.specs.Code.HalfCorrection.{half_floored, right_entry, shifted}

-- a and b above c and d
abbrev pub blocks : Half → Half → Half → Half → List Float
blocks a b c d =
    a.pp ∷ a.pf ∷ a.pc ∷ b.pp ∷ b.pf ∷ b.pc
    ∷ a.fp ∷ a.ff ∷ a.fc ∷ b.fp ∷ b.ff ∷ b.fc
    ∷ a.cp ∷ a.cf ∷ a.cc ∷ b.cp ∷ b.cf ∷ b.cc
    ∷ c.pp ∷ c.pf ∷ c.pc ∷ d.pp ∷ d.pf ∷ d.pc
    ∷ c.fp ∷ c.ff ∷ c.fc ∷ d.fp ∷ d.ff ∷ d.fc
    ∷ c.cp ∷ c.cf ∷ c.cc ∷ d.cp ∷ d.cf ∷ d.cc
    ∷ []

-- nine times x
abbrev pub alike : Float → Half
alike x =
    record {
      pp = x;
      pf = x;
      pc = x;
      fp = x;
      ff = x;
      fc = x;
      cp = x;
      cf = x;
      cc = x;
    }

-- a gain of 0
abbrev pub no_gain : Gain
no_gain = record { p = zero; f = zero; c = zero }

-- ---- prediction

-- with Q's diagonal added
abbrev pub with_noise : ProcessNoise → Half → Half
with_noise n h =
    record {
      pp = plus h.pp n.q_p;
      pf = plus h.pf zero;
      pc = plus h.pc zero;
      fp = plus h.fp zero;
      ff = plus h.ff n.q_f;
      fc = plus h.fc zero;
      cp = plus h.cp zero;
      cf = plus h.cf zero;
      cc = plus h.cc n.q_c;
    }

-- the means of the entries of a and those of b's transpose
abbrev pub means : Half → Half → Half
means a b =
    record {
      pp = mean_of_two a.pp b.pp;
      pf = mean_of_two a.pf b.fp;
      pc = mean_of_two a.pc b.cp;
      fp = mean_of_two a.fp b.pf;
      ff = mean_of_two a.ff b.ff;
      fc = mean_of_two a.fc b.cf;
      cp = mean_of_two a.cp b.pc;
      cf = mean_of_two a.cf b.fc;
      cc = mean_of_two a.cc b.cc;
    }

pub by_f_blocks : (dt : Float) (a b c d : Half) → by_f dt (blocks a b c d) ≡ blocks (moved_rows dt a) (moved_rows dt b) (moved_rows dt c) (moved_rows dt d)
unfolding matrix
by_f_blocks dt a b c d = refl

pub by_ft_blocks : (dt : Float) (a b c d : Half) → by_ft dt (blocks a b c d) ≡ blocks (moved_columns dt a) (moved_columns dt b) (moved_columns dt c) (moved_columns dt d)
unfolding matrix
by_ft_blocks dt a b c d = refl

pub sum_blocks : (n : ProcessNoise) (a b c d : Half)
    → sum_of (blocks a b c d) (noise_table n.q_p n.q_f n.q_c n.q_f n.q_c zero zero)
    ≡ blocks (with_noise n a) (shifted b zero) (shifted c zero) (with_noise n d)
unfolding matrix
sum_blocks n a b c d = refl

pub mean_blocks : (a b c d : Half) → mean_of (blocks a b c d) ≡ blocks (means a a) (means b c) (means c b) (means d d)
unfolding matrix
mean_blocks a b c d = refl

-- ---- correction by the first channel's phase

-- block t of (I − K·h)·P: k is the gain of its rows, u the block that has the phase's row in its columns
abbrev pub left_of : Half → Half → Gain → Half
left_of t u k =
    record {
      pp = minus t.pp (times k.p u.pp);
      pf = minus t.pf (times k.p u.pf);
      pc = minus t.pc (times k.p u.pc);
      fp = minus t.fp (times k.f u.pp);
      ff = minus t.ff (times k.f u.pf);
      fc = minus t.fc (times k.f u.pc);
      cp = minus t.cp (times k.c u.pp);
      cf = minus t.cf (times k.c u.pf);
      cc = minus t.cc (times k.c u.pc);
    }

-- block t of T·(I − K·h)ᵀ + K·R·Kᵀ: k is the gain of its rows, l that of its columns, u the block that has the phase's column in its rows
abbrev pub right_of : Half → Half → Gain → Gain → Float → Half
right_of t u k l noise =
    record {
      pp = right_entry t.pp u.pp k.p l.p noise;
      pf = right_entry t.pf u.pp k.p l.f noise;
      pc = right_entry t.pc u.pp k.p l.c noise;
      fp = right_entry t.fp u.fp k.f l.p noise;
      ff = right_entry t.ff u.fp k.f l.f noise;
      fc = right_entry t.fc u.fp k.f l.c noise;
      cp = right_entry t.cp u.cp k.c l.p noise;
      cf = right_entry t.cf u.cp k.c l.f noise;
      cc = right_entry t.cc u.cp k.c l.c noise;
    }

pub gain_blocks : (a b c d : Half) (s : Float) → gain_of (blocks a b c d) 0 s ≡ over a.pp s ∷ over a.fp s ∷ over a.cp s ∷ over c.pp s ∷ over c.fp s ∷ over c.cp s ∷ []
unfolding gain_of
gain_blocks a b c d s = refl

pub floored_blocks : (a b c d : Half) → floored (blocks a b c d) ≡ blocks (half_floored a) b c (half_floored d)
unfolding matrix
floored_blocks a b c d = refl

pub left_blocks : (a b c d : Half) (k : Gain) → joseph_left (blocks a b c d) 0 (gains k) ≡ blocks (left_of a a k) (left_of b b k) (left_of c a no_gain) (left_of d b no_gain)
unfolding matrix
left_blocks a b c d k = refl

pub right_blocks : (a b c d : Half) (k : Gain) (noise : Float)
    → joseph_right (blocks a b c d) 0 (gains k) noise
    ≡ blocks (right_of a a k k noise) (right_of b a k no_gain noise) (right_of c c no_gain k noise) (right_of d c no_gain no_gain noise)
unfolding matrix
right_blocks a b c d k noise = refl
