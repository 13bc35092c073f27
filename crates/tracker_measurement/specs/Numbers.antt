-- The number that stands for each modulation (the scope, module 9: what open takes). Definitions only.
use Rattle.std.specs.Prelude.{ℕ, zero, suc}
use Rattle.tracker_measurement.specs.declared.modulation.Modulation.{Modulation}
use Rattle.tracker_measurement.specs.declared.modulation.Modulation.TheVariants.{Carrier, Bpsk, Qpsk}

-- 0 carrier, 1 BPSK, 2 QPSK
abbrev pub modulation_number : Modulation → ℕ
modulation_number Carrier = 0
modulation_number Bpsk = 1
modulation_number Qpsk = 2

-- the modulation that a number stands for; one above 2 is QPSK too
abbrev pub numbered_modulation : ℕ → Modulation
numbered_modulation zero = Carrier
numbered_modulation (suc zero) = Bpsk
numbered_modulation (suc (suc n)) = Qpsk
