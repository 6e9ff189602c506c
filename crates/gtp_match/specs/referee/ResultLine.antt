-- The line of a match that has ended, by a verdict of its own or by a ruling.
use Rattle.std.specs.Prelude.{ℕ, List, [], ◌∷◌, ◌++◌, codes, Option, Some, None}
use Rattle.std.specs.Fmt.{decimal}
use Rattle.std.specs.List.{concat}
use Rattle.gtp_match.specs.ResultLine.{won_against, counts_text, result_text}
use Rattle.gtp_match.specs.declared.controller.Controller.{Controller}
use Rattle.gtp_match.specs.declared.verdicts.Verdict.{Verdict}
use Rattle.gtp_match.specs.referee.Refereed.{Refereed}
use Rattle.gtp_match.specs.declared.referee.rulings.Ruled.{Ruled}
use Rattle.gtp_match.specs.declared.referee.rulings.Ruling.{Ruling}
use Rattle.gtp_match.specs.declared.referee.rulings.Ruling.TheVariants.{Time, Reason}

-- `T`, or `F(REASON)`
abbrev pub ruling_text : Ruling → List ℕ
ruling_text Time = codes "T"
ruling_text (Reason kept) = concat (codes "F(" ∷ kept.items ∷ codes ")" ∷ [])

-- after who won
abbrev pub ruled_text : Ruled → List ℕ
ruled_text given = won_against given.loser ++ ruling_text given.ruling

-- `game N: VERDICT`
abbrev pub ruled_head : ℕ → Ruled → List ℕ
ruled_head number given = concat (codes "game " ∷ decimal number ∷ codes ": " ∷ ruled_text given ∷ [])

-- the line of a match that a ruling ended, without its newline
abbrev pub ruled_line : ℕ → Controller → Ruled → List ℕ
ruled_line number c given = ruled_head number given ++ counts_text c

-- the line, if there is one, of a match with this verdict of its own and this ruling
abbrev pub line_where : ℕ → Controller → Option Verdict → Option Ruled → Option (List ℕ)
line_where number c None None = None
line_where number c (Some verdict) None = Some (result_text number c verdict)
line_where number c verdict (Some given) = Some (ruled_line number c given)

-- the line of a match that is over, without its newline; none of one that goes on
abbrev pub line_of : ℕ → Refereed → Option (List ℕ)
line_of number r = line_where number r.controller r.controller.verdict r.ruled
