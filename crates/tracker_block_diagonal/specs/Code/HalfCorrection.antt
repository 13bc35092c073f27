-- Correction by the first channel's phase with the variance R (the scope, module 3): what it makes of each half. Definitions only.
use Rattle.std.specs.Prelude.{Float}
use Rattle.ieee754.specs.Order.{maximum}
use Rattle.ieee754.specs.Binary64.{plus, minus, times, over, ten_to_minus15}
use Rattle.tracker_block_diagonal.specs.declared.half.Gain.{Gain}
use Rattle.tracker_block_diagonal.specs.declared.half.Half.{Half}

-- K: the phase's column over s
abbrev pub half_gain : Half → Float → Gain
half_gain h s = record { p = over h.pp s; f = over h.fp s; c = over h.cp s }

-- P with each variance raised to the least
abbrev pub half_floored : Half → Half
half_floored h =
    record {
      pp = maximum h.pp ten_to_minus15;
      pf = h.pf;
      pc = h.pc;
      fp = h.fp;
      ff = maximum h.ff ten_to_minus15;
      fc = h.fc;
      cp = h.cp;
      cf = h.cf;
      cc = maximum h.cc ten_to_minus15;
    }

-- (I − K·h)·P, where h·P is the phase's row
abbrev pub half_left : Half → Gain → Half
half_left h k =
    record {
      pp = minus h.pp (times k.p h.pp);
      pf = minus h.pf (times k.p h.pf);
      pc = minus h.pc (times k.p h.pc);
      fp = minus h.fp (times k.f h.pp);
      ff = minus h.ff (times k.f h.pf);
      fc = minus h.fc (times k.f h.pc);
      cp = minus h.cp (times k.c h.pp);
      cf = minus h.cf (times k.c h.pf);
      cc = minus h.cc (times k.c h.pc);
    }

-- an entry t of T·(I − K·h)ᵀ + K·R·Kᵀ, where tp is its row's entry in the phase's column, kr its row's gain and kc its column's
abbrev pub right_entry : Float → Float → Float → Float → Float → Float
right_entry t tp kr kc noise = plus (minus t (times tp kc)) (times (times kr kc) noise)

-- T·(I − K·h)ᵀ + K·R·Kᵀ, where T·hᵀ is the phase's column
abbrev pub half_right : Half → Gain → Float → Half
half_right t k noise =
    record {
      pp = right_entry t.pp t.pp k.p k.p noise;
      pf = right_entry t.pf t.pp k.p k.f noise;
      pc = right_entry t.pc t.pp k.p k.c noise;
      fp = right_entry t.fp t.fp k.f k.p noise;
      ff = right_entry t.ff t.fp k.f k.f noise;
      fc = right_entry t.fc t.fp k.f k.c noise;
      cp = right_entry t.cp t.cp k.c k.p noise;
      cf = right_entry t.cf t.cp k.c k.f noise;
      cc = right_entry t.cc t.cp k.c k.c noise;
    }

-- each entry plus o: all that Joseph's form does to a half whose gain is 0
abbrev pub shifted : Half → Float → Half
shifted h o =
    record {
      pp = plus h.pp o;
      pf = plus h.pf o;
      pc = plus h.pc o;
      fp = plus h.fp o;
      ff = plus h.ff o;
      fc = plus h.fc o;
      cp = plus h.cp o;
      cf = plus h.cf o;
      cc = plus h.cc o;
    }
