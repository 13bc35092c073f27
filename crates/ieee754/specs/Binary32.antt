-- Every f32 that a definition names: here stand its bits, and nowhere else. A number that is no f32 stands for the nearest one. Definitions only.
use Rattle.std.specs.Prelude.{from_bits, Float}
use Rattle.std.specs.Float.{binary32}

-- ---- whole numbers

-- 0
abbrev pub zero : Float
zero = from_bits binary32 0

-- 1
abbrev pub one : Float
one = from_bits binary32 0x3f80_0000

-- 9
abbrev pub nine : Float
nine = from_bits binary32 0x4110_0000

-- 150
abbrev pub hundred_fifty : Float
hundred_fifty = from_bits binary32 0x4316_0000

-- 2 ^ 10, 1,024
abbrev pub two_to10 : Float
two_to10 = from_bits binary32 0x4480_0000

-- ---- decimal fractions

-- 1.98 (the f32 lies a little above)
abbrev pub one_point98 : Float
one_point98 = from_bits binary32 0x3ffd_70a4

-- 0.5
abbrev pub half : Float
half = from_bits binary32 0x3f00_0000

-- 1e-5
abbrev pub ten_to_minus5 : Float
ten_to_minus5 = from_bits binary32 0x3727_c5ac

-- 1e-6
abbrev pub ten_to_minus6 : Float
ten_to_minus6 = from_bits binary32 0x3586_37bd

-- 1e-12
abbrev pub ten_to_minus12 : Float
ten_to_minus12 = from_bits binary32 0x2b8c_bccc
