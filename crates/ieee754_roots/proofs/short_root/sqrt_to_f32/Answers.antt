-- `ieee754_roots::short_root::sqrt_to_f32` meets its contract. Assumes nothing.
use Rattle.std.proofs.Common.{ℕ, ◌+◌, ◌-◌, ◌*◌, ◌/◌, ◌^◌, ◌<◌, ◌≤◌, T, sym, subst}
use lib.Ieee.{binary32, binary64, fits, to_bits}
use Rattle.ieee754.proofs.Fields.{no_nan_plain}
use Rattle.ieee754_roots.proofs.ShortRootCases.{inside, pattern_le, short_root}
use Rattle.ieee754_roots.proofs.short_root.sqrt_to_f32.Goals.{Start, Then-b, Then-rounds_to}
use Rattle.ieee754_roots.proofs.short_root.sqrt_to_f32.Goals as goal

held : (c : Start) → T (fits binary64 c.args.x)
held c = subst T (sym c.well_formed.0.1) tt

abbrev b : Then-b → ℕ
b c = to_bits binary64 c.args.x

range : (c : Then-b) → (0x3030_0000_0000_0000 ≤ b c) × (b c < 0x4fd0_0000_0000_0000)
range c = inside (b c) 0x3030_0000_0000_0000 0x4fd0_0000_0000_0000 c.if-b.true

pattern : (c : Then-rounds_to) → (((b c.before.before.before / 2 ^ 52 + 1021) / 2 - 896) * 2 ^ 23 + c.guessed_digits-d.result) ≤ 0x7f80_0000
pattern c = let t = c.before.before in pattern_le (b t.before) t.guessed_digits-d.result (range t.before).1 t.guessed_digits-d.ensures.1

pub float_from_bits-result : goal.float_from_bits-result
float_from_bits-result c = no_nan_plain binary32 _ (pattern (goal.at.float_from_bits-result c).Then-rounds_to)

pub returns-then-rounds_to : goal.returns-then-rounds_to
returns-then-rounds_to c =
    short_root c.args.x (held (goal.at.returns-then-rounds_to c).Start) c.guessed_digits-d.result (range (goal.at.returns-then-rounds_to c).Then-b).0 (range (goal.at.returns-then-rounds_to c).Then-b).1 (c.rounds_to.ensures c.if-rounds_to.true)
