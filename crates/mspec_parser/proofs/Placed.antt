-- The fault that is answered is where the lexemes leave the grammar.
use Rattle.std.proofs.Common.{ℕ, ◌≡◌, List, Result, Ok, Err, refl, sym, ap, subst}
use Rattle.mspec_tree.specs.Depth.{depth_limit}
use Rattle.mspec_tree.specs.declared.words.Place.{Place}
use Rattle.mspec_tree.specs.declared.defs.Description.{Description}
use Rattle.mspec_lexer.specs.Lexemes.{Lexeme}
use Rattle.mspec_grammar.specs.declared.faults.ParseWhy.{ParseWhy}
use Rattle.mspec_grammar.specs.Faults.{IsRefused}
use Rattle.mspec_quotes.specs.Machine.{Stopped}
use Rattle.mspec_parser.specs.declared.faults.ParseFault.{ParseFault}
use Rattle.mspec_parser.specs.declared.faults.ParseFault.TheVariants as fault
use Rattle.mspec_parser.specs.Defs.{description_at}
use Rattle.mspec_parser.specs.Parsing.{place_of, placed, GivesAt, IsFaultOf}
use Rattle.mspec_parser.proofs.FaultLaws.{refused-at}

abbrev Where : List ℕ → List Lexeme → Place → ParseWhy → Type 0
Where text xs place why = (at : List Lexeme) × IsRefused xs at why × (place ≡ place_of text at)

pub refused-of : (text : List ℕ) (xs : List Lexeme) (result : Result Description ParseFault) → GivesAt text result (description_at depth_limit xs)
    → IsFaultOf text xs result
refused-of text xs (Ok d) h = tt
refused-of text xs (Err fault.NoMemory) h = tt
refused-of text xs (Err (fault.At place why)) h = by-read (description_at depth_limit xs) refl h
  where
    by-read : (r : Result Description Stopped) → description_at depth_limit xs ≡ r → placed text r ≡ Err (place, why) → Where text xs place why
    by-read (Ok d) e h = absurd (cc)
    by-read (Err f) e h =
        let both : (place_of text f.at, f.why) ≡ (place, why) = cc in
        let same_why : f.why ≡ why = ap (λ (p : Place × ParseWhy). p.1) both in
        let same_place : place ≡ place_of text f.at = ap (λ (p : Place × ParseWhy). p.0) (sym both) in
        (f.at, subst (λ (w : ParseWhy). IsRefused xs f.at w) same_why (refused-at xs f e), same_place)
