-- `pass_reader::line::place_of` meets its contract. The place of the first b is where the search stops.
use Rattle.std.proofs.Common.{◌≡◌, ℕ, Option, eqb, length, sym, subst, rules, tests}
use Rattle.std.specs.Prelude.{◌<◌, MatchOption}
use Rattle.std.specs.List.{position}
use Rattle.std.proofs.lemmas.Iterator.{YieldsList-from_slice}
use Rattle.std.proofs.lemmas.Iterator.Search.{position_from_yields_List}
use Rattle.pass_reader.specs.Code.Places.{place}
use Rattle.pass_reader.proofs.ByteLaws.{place_found}
use Rattle.pass_reader.proofs.line.place_of.Goals as goal

pub returns : goal.returns
returns c =
    let s = c.args.s.now in
    let found : c.position.result ≡ position (λ x. eqb x c.args.b) s =
    position_from_yields_List (λ x. eqb x c.args.b) _ _ _ c.position.ensures.ran (YieldsList-from_slice s cc) (λ x t q h. search (rules, tests)) in
    subst (λ (o : Option ℕ). MatchOption o (place c.args.b s ≡ length s) (λ n. (n ≡ place c.args.b s) × (n < length s))) (sym found) (place_found c.args.b s)
