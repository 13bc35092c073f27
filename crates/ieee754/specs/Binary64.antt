-- The operations of f64, each rounded once (IEEE 754-2019), and every f64 that a definition names: here stand its bits, and nowhere else.
-- A number that is no f64 stands for the nearest one. Definitions only.
use Rattle.std.specs.Prelude.{from_bits, Float}
use Rattle.std.specs.Float.{binary64}
use Rattle.std.specs.Float.Ieee.{add, sub, mul, div}

abbrev pub plus : Float → Float → Float
plus x y = add binary64 x y

abbrev pub minus : Float → Float → Float
minus x y = sub binary64 x y

abbrev pub times : Float → Float → Float
times x y = mul binary64 x y

abbrev pub over : Float → Float → Float
over x y = div binary64 x y

abbrev pub square : Float → Float
square x = times x x

-- ---- whole numbers

-- 0
abbrev pub zero : Float
zero = from_bits binary64 0

-- 1
abbrev pub one : Float
one = from_bits binary64 0x3ff0_0000_0000_0000

-- 2
abbrev pub two : Float
two = from_bits binary64 0x4000_0000_0000_0000

-- 3
abbrev pub three : Float
three = from_bits binary64 0x4008_0000_0000_0000

-- 4
abbrev pub four : Float
four = from_bits binary64 0x4010_0000_0000_0000

-- 5
abbrev pub five : Float
five = from_bits binary64 0x4014_0000_0000_0000

-- 10
abbrev pub ten : Float
ten = from_bits binary64 0x4024_0000_0000_0000

-- 20
abbrev pub twenty : Float
twenty = from_bits binary64 0x4034_0000_0000_0000

-- 40
abbrev pub forty : Float
forty = from_bits binary64 0x4044_0000_0000_0000

-- 50
abbrev pub fifty : Float
fifty = from_bits binary64 0x4049_0000_0000_0000

-- 100
abbrev pub hundred : Float
hundred = from_bits binary64 0x4059_0000_0000_0000

-- 150
abbrev pub hundred_fifty : Float
hundred_fifty = from_bits binary64 0x4062_c000_0000_0000

-- 1,000
abbrev pub thousand : Float
thousand = from_bits binary64 0x408f_4000_0000_0000

-- 5,000
abbrev pub five_thousand : Float
five_thousand = from_bits binary64 0x40b3_8800_0000_0000

-- 10,000
abbrev pub ten_thousand : Float
ten_thousand = from_bits binary64 0x40c3_8800_0000_0000

-- 40,000
abbrev pub forty_thousand : Float
forty_thousand = from_bits binary64 0x40e3_8800_0000_0000

-- 50,000
abbrev pub fifty_thousand : Float
fifty_thousand = from_bits binary64 0x40e8_6a00_0000_0000

-- 1,000,000
abbrev pub million : Float
million = from_bits binary64 0x412e_8480_0000_0000

-- 100,000,000,000
abbrev pub hundred_billion : Float
hundred_billion = from_bits binary64 0x4237_4876_e800_0000

-- 1.7976931348623157e308, the largest finite f64
abbrev pub largest : Float
largest = from_bits binary64 0x7fef_ffff_ffff_ffff

-- ---- parts of a turn

-- 2π, 6.283185307179586
abbrev pub two_pi : Float
two_pi = from_bits binary64 0x4019_21fb_5444_2d18

-- π, 3.141592653589793
abbrev pub pi : Float
pi = from_bits binary64 0x4009_21fb_5444_2d18

-- 3π/4, 2.356194490192345
abbrev pub three_quarters_pi : Float
three_quarters_pi = from_bits binary64 0x4002_d97c_7f33_21d2

-- π/2, 1.5707963267948966
abbrev pub half_pi : Float
half_pi = from_bits binary64 0x3ff9_21fb_5444_2d18

-- π/4, 0.7853981633974483
abbrev pub quarter_pi : Float
quarter_pi = from_bits binary64 0x3fe9_21fb_5444_2d18

-- ---- powers of two

-- 2 ^ -16, 0.0000152587890625
abbrev pub two_to_minus16 : Float
two_to_minus16 = from_bits binary64 0x3ef0_0000_0000_0000

-- 2 ^ -53, 1.1102230246251565e-16
abbrev pub two_to_minus53 : Float
two_to_minus53 = from_bits binary64 0x3ca0_0000_0000_0000

-- 2 ^ -54, 5.551115123125783e-17
abbrev pub two_to_minus54 : Float
two_to_minus54 = from_bits binary64 0x3c90_0000_0000_0000

-- 2 ^ -61, 4.336808689942018e-19
abbrev pub two_to_minus61 : Float
two_to_minus61 = from_bits binary64 0x3c20_0000_0000_0000

-- 2 ^ -62, 2.168404344971009e-19
abbrev pub two_to_minus62 : Float
two_to_minus62 = from_bits binary64 0x3c10_0000_0000_0000

-- 2 ^ -81, 4.1359030627651384e-25
abbrev pub two_to_minus81 : Float
two_to_minus81 = from_bits binary64 0x3ae0_0000_0000_0000

-- ---- decimal fractions

-- 819.2
abbrev pub eight_hundred19_point2 : Float
eight_hundred19_point2 = from_bits binary64 0x4089_9999_9999_999a

-- √2, 1.4142135623730951
abbrev pub root_two : Float
root_two = from_bits binary64 0x3ff6_a09e_667f_3bcd

-- 0.999
abbrev pub point999 : Float
point999 = from_bits binary64 0x3fef_f7ce_d916_872b

-- 0.995
abbrev pub point995 : Float
point995 = from_bits binary64 0x3fef_d70a_3d70_a3d7

-- 0.9
abbrev pub point9 : Float
point9 = from_bits binary64 0x3fec_cccc_cccc_cccd

-- 0.5
abbrev pub half : Float
half = from_bits binary64 0x3fe0_0000_0000_0000

-- 0.25
abbrev pub quarter : Float
quarter = from_bits binary64 0x3fd0_0000_0000_0000

-- 0.1
abbrev pub point1 : Float
point1 = from_bits binary64 0x3fb9_9999_9999_999a

-- 0.02
abbrev pub point02 : Float
point02 = from_bits binary64 0x3f94_7ae1_47ae_147b

-- 0.01
abbrev pub point01 : Float
point01 = from_bits binary64 0x3f84_7ae1_47ae_147b

-- 0.005
abbrev pub point005 : Float
point005 = from_bits binary64 0x3f74_7ae1_47ae_147b

-- 0.001
abbrev pub point001 : Float
point001 = from_bits binary64 0x3f50_624d_d2f1_a9fc

-- 0.0001
abbrev pub point0001 : Float
point0001 = from_bits binary64 0x3f1a_36e2_eb1c_432d

-- 1e-6
abbrev pub ten_to_minus6 : Float
ten_to_minus6 = from_bits binary64 0x3eb0_c6f7_a0b5_ed8d

-- 1e-10
abbrev pub ten_to_minus10 : Float
ten_to_minus10 = from_bits binary64 0x3ddb_7cdf_d9d7_bdbb

-- 1e-12
abbrev pub ten_to_minus12 : Float
ten_to_minus12 = from_bits binary64 0x3d71_9799_812d_ea11

-- 1e-15
abbrev pub ten_to_minus15 : Float
ten_to_minus15 = from_bits binary64 0x3cd2_03af_9ee7_5616

-- 1.1839e-10, of the electron content (module 8)
abbrev pub electron_scale : Float
electron_scale = from_bits binary64 0x3de0_457a_51dc_5dfe
