-- The digits of the code's tables are those of the rule: one computed test for each table.
use mathlib.Core.Path.{◌≡◌, refl}
use mathlib.Core.List.{List, [], ◌∷◌}
use Prim.Native.Nat.{ℕ, ◌<◌}
use lib.Count.{count_trailing_zeros}
use lib.Dec.{T}
use lib.ListN.{get_or}
use lib.Ieee.{Float, neg, of_bits, to_bits, round, size, span, climb, units, odd}
use Rattle.elementary_series.specs.Series.{factorial, terms, inverse_factorial}
use Rattle.elementary_cells.proofs.Entries.{follows, nearest_fits, table_at}
use Rattle.elementary_sincos_table.specs.Taylor.{sine_sum, cosine_sum}
use Rattle.elementary_sincos_table.specs.declared.TheConstants.{SINES, COSINES}
use Rattle.elementary_sincos_table.specs.Table.{sine_entry, cosine_entry}

unfoldable pub sines : List ℕ
sines =
    0x0 ∷ 0x3fcfaaeed4f31577 ∷ 0x3fdeaee8744b05f0 ∷ 0x3fe5cffc16bf8f0d ∷ 0x3feaed548f090cee ∷ 0x3fee5e14fe11418c ∷ 0x3fefeb7a9b2c6d8b ∷ 0x3fef7cd018b18246
    ∷ 0x3fed18f6ead1b446 ∷ 0x3fe8e5f9c2d0e3a9 ∷ 0x3fe326af0dcfcab1 ∷ 0x3fd86d2239c183fb ∷ 0x3fc210386db6d55b ∷ 0xbfbbb2ad2464a48c ∷ 0xbfd6733b7eba621f ∷ 0xbfe24a3af6750621
    ∷ 0xbfe837b9dddc1eae ∷ 0xbfeca3c0b8fb8370 ∷ 0xbfef47ed3dc74080 ∷ 0xbfeffa34def8e460 ∷ 0xbfeeaf81f5e09933 ∷ 0xbfeb7c6430d58da3 ∷ 0xbfe693c94e0ab057 ∷ 0xbfe043d27be3362f
    ∷ 0xbfd1e1f18ab0a2c0 ∷ 0xbfa0fcddc3f512bc ∷ []

unfoldable pub cosines : List ℕ
cosines =
    0x3ff0000000000000 ∷ 0x3fef01549f7deea1 ∷ 0x3fec1528065b7d50 ∷ 0x3fe769fec655211f ∷ 0x3fe14a280fb5068c ∷ 0x3fd42e3dd88bd952 ∷ 0x3fb21bd54fc5f9a7 ∷ 0xbfc6d0c449d3e98a
    ∷ 0xbfdaa22657537205 ∷ 0xbfe419ff91b9ba6d ∷ 0xbfe9a2f7ef858b7d ∷ 0xbfed93e294faed14 ∷ 0xbfefae04be85e5d2 ∷ 0xbfefcfe909d7f7f8 ∷ 0xbfedf77403c11a5f ∷ 0xbfea4205b28667f7
    ∷ 0xbfe4eaa606db24c1 ∷ 0xbfdc8cb28b1567f5 ∷ 0xbfcafb5b54583d6a ∷ 0x3fa34096e1d37b74 ∷ 0x3fd22785706b4ad9 ∷ 0x3fe0630115305409 ∷ 0x3fe6ad6c3c07d448 ∷ 0x3feb8ee36668b394
    ∷ 0x3feeb9b7097822f5 ∷ 0x3feffb7d58a8f975 ∷ []

sines_follow : T (follows sine_entry 0 sines)
unfolding follows sines sine_entry to_bits round size units odd span climb count_trailing_zeros terms inverse_factorial factorial
sines_follow = tt

cosines_follow : T (follows cosine_entry 0 cosines)
unfolding follows cosines cosine_entry to_bits round size units odd span climb count_trailing_zeros terms inverse_factorial factorial
cosines_follow = tt

-- the code's tables are of these patterns
pub sine_at : (k : ℕ) (d : Float) → k < 26 → get_or SINES k d ≡ sine_entry k
unfolding sines neg of_bits
sine_at = table_at sine_entry sines SINES sines_follow (λ (k : ℕ). unfold sine_entry in nearest_fits (sine_sum k 4)) refl

pub cosine_at : (k : ℕ) (d : Float) → k < 26 → get_or COSINES k d ≡ cosine_entry k
unfolding cosines neg of_bits
cosine_at = table_at cosine_entry cosines COSINES cosines_follow (λ (k : ℕ). unfold cosine_entry in nearest_fits (cosine_sum k 4)) refl
