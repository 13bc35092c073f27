-- The example of the scope's "The pass text and its list". Definitions only.
use Rattle.std.specs.Prelude.{ℕ, List, ◌++◌}
use Rattle.pass_reader.specs.Bytes.{bytes}

-- the input
unfoldable pub pass_text : List ℕ
pass_text =
    bytes "rate factor mod adaptive dual bank fade nominal target\n"
    ++ bytes "40000 1 0 1 1 1 5 0 137500000\n"
    ++ bytes "flag samples\n"
    ++ bytes "0 -\n"
    ++ bytes "1 -\n"
    ++ bytes "3 -\n"

-- the whole output
unfoldable pub pass_list : List ℕ
pass_list =
    bytes "block locked tracker fade phase frequency snr\n"
    ++ bytes "1 0 3 0 0000000000000000 0000000000000000 c034000000000000\n"
    ++ bytes "2 1 0 0 0000000000000000 41a0642ac0000000 c034000000000000\n"
    ++ bytes "3 0 0 0 0000000000000000 41a0642ac0000000 3fe0000000000000\n"
