-- A group of cases with one case more: how many there are, and how many hold. Definitions only.
use Rattle.std.specs.Prelude.{cond, List, ℕ, ◌+◌, ◌%◌, ◌^◌}
use Rattle.channel_cases.specs.declared.Group.{Group}
use Rattle.channel_cases.specs.Code.Cases.{case_holds}

-- one more; behind 2 ^ 32 it begins anew
abbrev pub one_more : ℕ → ℕ
one_more n = n % 2 ^ 32 + 1

unfoldable pub with_case : Group → List ℕ → Group
with_case g case = record { good = cond (case_holds case) (one_more g.good) g.good; all = one_more g.all }
