-- The loops over the games of a conversation.
use Rattle.std.proofs.Common.{◌≡◌, ◌∙◌, ap, sym, refl, ℕ, ◌+◌, ◌-◌, ◌<◌, ◌≤◌, Bool, true, false, nat_lt}
use Rattle.std.proofs.Common.{if◌then◌else◌, cond, arith, rules}
use Rattle.std.proofs.Common.{List, [], ◌∷◌, ◌++◌, length, drop, get_or, Option, Some, None}
use Rattle.std.specs.Bool.{then_some}
use Rattle.std.specs.Prelude.{reverse, option_and_then}
use Rattle.std.proofs.lemmas.List.Sums.{sum_by-cons}
use Rattle.std.proofs.lemmas.List.{at_drop_more, at_drop_all, reverse-append}
use Rattle.go_board.specs.Game.{GameRecord}
use Rattle.gtp_check_judge.specs.declared.asking.CheckCommand.{CheckCommand}
use Rattle.gtp_check_talk.specs.declared.said.Said.{Said}
use Rattle.gtp_check_shortening.specs.Shortening.{flat, games_in, is_clear, listed, role_of, start_of, stays, taken_back}
use Rattle.gtp_check_shortening.specs.Shortening.{standing_back, stays_on, taken_by}
use Rattle.gtp_check_shortening.specs.Superko.{after_all, after_asked}

-- the rest of a list from one of its elements on
pub from_here : (talk : List Said) (index : ℕ) (said : Said) → index < length talk → said ≡ get_or talk index said
    → drop index talk ≡ said ∷ drop (index + 1) talk
from_here talk index said within is =
    at_drop_more (λ (rest : List Said). rest) talk index said within
    ∙ ap (λ (one : Said). one ∷ drop (index + 1) talk) (sym is)

-- ---- where the last games begin

-- how many games begin after a command
pub left_after : (said : Said) (later : List Said) (left next : ℕ) (clear : Bool) → left ≡ games_in (said ∷ later)
    → clear ≡ is_clear (role_of said) → next ≡ (if clear then left - 1 else left) → next ≡ games_in later
left_after said later left next true now is next-is =
    let one = sum_by-cons (λ (one : Said). cond (is_clear (role_of one)) 1 0) said later in
    let more : left ≡ 1 + games_in later =
    now ∙ one ∙ ap (λ (b : Bool). cond b 1 0 + games_in later) (sym is) in
    next-is ∙ omega arith
left_after said later left next false now is next-is =
    let one = sum_by-cons (λ (one : Said). cond (is_clear (role_of one)) 1 0) said later in
    let same : left ≡ 0 + games_in later =
    now ∙ one ∙ ap (λ (b : Bool). cond b 1 0 + games_in later) (sym is) in
    next-is ∙ omega arith

start_by : (games : ℕ) (said : Said) (later : List Said) (few : Bool) → few ≡ nat_lt (games_in later) games
    → start_of games (said ∷ later) ≡ (if few then 0 else start_of games later + 1)
unfolding start_of
start_by games said later few is =
    ap (λ (b : Bool). if b then 0 else start_of games later + 1) (sym is)

-- they begin at a command where too few begin after it
pub start_here : (games left : ℕ) (said : Said) (later : List Said) → left ≡ games_in later → left < games
    → start_of games (said ∷ later) ≡ 0
start_here games left said later is less =
    start_by games said later true (let is_less : nat_lt left games ≡ true = search rules in cc)

-- else they begin later
pub start_later : (games left : ℕ) (said : Said) (later : List Said) → left ≡ games_in later → games ≤ left
    → start_of games (said ∷ later) ≡ start_of games later + 1
start_later games left said later is more =
    start_by games said later false (let is_more : nat_lt left games ≡ false = search rules in cc)

-- ---- what stays of flat games

pub flat_more : (commands next : List CheckCommand) (said : Said) (later : List Said) (stay : Bool)
    (kept : Option CheckCommand) → reverse commands ≡ flat later → stay ≡ stays (role_of said) (taken_back later)
    → kept ≡ then_some stay said.command → next ≡ commands ++ listed kept
    → reverse next ≡ flat (said ∷ later)
unfolding flat
flat_more commands next said later true kept back is kept-is next-is =
    ap reverse (next-is ∙ ap (λ (one : Option CheckCommand). commands ++ listed one) kept-is)
    ∙ reverse-append commands (said.command ∷ []) ∙ ap (λ (l : List CheckCommand). said.command ∷ l) back
    ∙ ap (λ (b : Bool). if b then said.command ∷ flat later else flat later) is
flat_more commands next said later false kept back is kept-is next-is =
    ap reverse (next-is ∙ ap (λ (one : Option CheckCommand). commands ++ listed one) kept-is)
    ∙ reverse-append commands [] ∙ back
    ∙ ap (λ (b : Bool). if b then said.command ∷ flat later else flat later) is

-- ---- what stays of a board that is set up

pub standing_more : (game : GameRecord) (commands seen next : List CheckCommand) (said : Said) (later : List Said)
    (after : ℕ) (stay : Bool) (kept : Option CheckCommand) → commands ≡ standing_back game later
    → after ≡ taken_back later → seen ≡ commands → stay ≡ stays_on game said after seen
    → kept ≡ then_some stay said.command → next ≡ commands ++ listed kept
    → next ≡ standing_back game (said ∷ later)
unfolding standing_back
standing_more game commands seen next said later after stay kept back taken seen-is is kept-is next-is =
    next-is ∙ ap (λ (one : Option CheckCommand). commands ++ listed one) kept-is
    ∙ ap (λ (b : Bool). commands ++ listed (then_some b said.command)) is
    ∙ ap (λ (all : List CheckCommand). commands ++ listed (then_some (stays_on game said after all) said.command))
    seen-is
    ∙ ap (λ (n : ℕ). commands ++ listed (then_some (stays_on game said n commands) said.command)) taken
    ∙ ap (λ (all : List CheckCommand). all
    ++ listed (then_some (stays_on game said (taken_back later) all) said.command))
    back

-- of no command nothing stays
pub nothing_stands : (game : GameRecord) (talk : List Said) (commands : List CheckCommand) → commands ≡ []
    → commands ≡ standing_back game (drop (length talk - 0) talk)
unfolding standing_back
nothing_stands game talk commands none =
    none ∙ sym (at_drop_all (standing_back game) talk (length talk - 0) (omega arith))

-- ---- the game after commands

pub known_more : (game next : GameRecord) (said : Said) (later : List Said) → after_asked game said.command ≡ Some next
    → after_all game (said ∷ later) ≡ after_all next later
unfolding after_all
known_more game next said later is =
    ap (option_and_then (λ one. after_all one later)) is

pub known_none : (game : GameRecord) (said : Said) (later : List Said) → after_asked game said.command ≡ None
    → after_all game (said ∷ later) ≡ None
unfolding after_all
known_none game said later is =
    ap (option_and_then (λ one. after_all one later)) is

-- ---- at the loops

-- the last games begin here
pub starts_here : (games index left : ℕ) (talk : List Said) (said : Said) → index < length talk
    → said ≡ get_or talk index said → start_of games talk ≡ index + start_of games (drop index talk)
    → left ≡ games_in (drop (index + 1) talk) → left < games → index ≡ start_of games talk
starts_here games index left talk said within at so left-is less =
    let here = ap (start_of games) (from_here talk index said within at) in
    let none = start_here games left said (drop (index + 1) talk) left-is less in
    omega arith

-- they begin later
pub starts_later : (games index left : ℕ) (talk : List Said) (said : Said) → index < length talk
    → said ≡ get_or talk index said → start_of games talk ≡ index + start_of games (drop index talk)
    → left ≡ games_in (drop (index + 1) talk) → games ≤ left
    → start_of games talk ≡ index + 1 + start_of games (drop (index + 1) talk)
starts_later games index left talk said within at so left-is more =
    let here = ap (start_of games) (from_here talk index said within at) in
    let later = start_later games left said (drop (index + 1) talk) left-is more in
    omega arith

-- they begin nowhere
pub starts_nowhere : (games index : ℕ) (talk : List Said) → index ≤ length talk → length talk ≤ index
    → start_of games talk ≡ index + start_of games (drop index talk) → length talk ≡ start_of games talk
unfolding start_of
starts_nowhere games index talk within all so =
    let none : start_of games (drop index talk) ≡ 0 = at_drop_all (start_of games) talk index all in
    omega arith

-- how many games begin after this command
pub left_here : (index left next : ℕ) (talk : List Said) (said : Said) (clear : Bool) → index < length talk
    → said ≡ get_or talk index said → left ≡ games_in (drop index talk) → clear ≡ is_clear (role_of said)
    → next ≡ (if clear then left - 1 else left) → next ≡ games_in (drop (index + 1) talk)
left_here index left next talk said clear within at left-is is next-is =
    left_after said (drop (index + 1) talk) left next clear
    (left-is ∙ ap games_in (from_here talk index said within at)) is next-is

-- of no command nothing stays
pub nothing_stays : (talk : List Said) (commands : List CheckCommand) → commands ≡ []
    → reverse commands ≡ flat (drop (length talk - 0) talk)
unfolding flat
nothing_stays talk commands none =
    ap reverse none ∙ sym (at_drop_all flat talk (length talk - 0) (omega arith))

pub nothing_is_taken : (talk : List Said) → 0 ≡ taken_back (drop (length talk - 0) talk)
unfolding taken_back
nothing_is_taken talk = sym (at_drop_all taken_back talk (length talk - 0) (omega arith))

-- one command more from the end
pub from_end : (talk : List Said) (done : ℕ) (said : Said) → done < length talk
    → said ≡ get_or talk (length talk - 1 - done) said
    → drop (length talk - (done + 1)) talk ≡ said ∷ drop (length talk - done) talk
from_end talk done said within at =
    let place : length talk - 1 - done ≡ length talk - (done + 1) = omega arith in
    let more : length talk - (done + 1) + 1 ≡ length talk - done = omega arith in
    from_here talk (length talk - (done + 1)) said (omega arith) (cc)
    ∙ ap (λ (n : ℕ). said ∷ drop n talk) more

pub taken_more : (said : Said) (later : List Said)
    → taken_by (role_of said) (taken_back later) ≡ taken_back (said ∷ later)
unfolding taken_back
taken_more said later = refl
