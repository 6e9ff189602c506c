-- The names of an author's own commands.
use Rattle.std.proofs.Common.{◌≡◌, ◌≢◌, ℕ, ◌+◌, ◌<◌, ◌≤◌, true, false, List, [], ◌∷◌, ◌++◌, length, get_or, arith}
use Rattle.std.proofs.Common.{◌*◌, refl, sym, ap, subst, ◌∙◌, inl, inr, None, take, map, append_assoc, lit≤, lit<}
use Rattle.std.specs.Prelude.{Contains, IsTrue, ◌↔◌, is_some, Result, Ok, Err, OnOk, OnErr}
use Rattle.std.specs.Str.{bytes_eq}
use Rattle.std.specs.List.{join_with_byte, list_all, AllByRecursion}
use Rattle.std.proofs.lemmas.List.{length-append, take_more}
use Rattle.std.proofs.lemmas.Bool.{and_parts, or_cases, or_left, or_right}
use Rattle.std.proofs.lemmas.Bool.Decides.{nat_tests}
use Rattle.std.proofs.lemmas.List.Elements.{All-push, recursion_from_All, Contains-append_left}
use Rattle.std.proofs.lemmas.List.Elements.{Contains-append_right, Contains-append_cases}
use Rattle.std.proofs.lemmas.List.Folds.{list_any_at, Any-from_list_any}
use Rattle.std.proofs.lemmas.List.Quantifiers.{all_pairs_push}
use Rattle.std.proofs.lemmas.Slice.Eq.{bytes_eq-Decides}
use Rattle.go_base.proofs.general.Joined.{joined-join_with_byte}
use Rattle.go_base.specs.Text.{joined}
use Rattle.gtp_session.specs.Commands.{all_commands, all_names, command_named, spelled}
use Rattle.gtp_session.specs.OwnCommands.{AreOwnCommands, IsOwnName, MayBeAdded, has_command, is_name_byte}
use Rattle.gtp_session.specs.OwnCommands.{is_known, names_with, KnownIsListed}
use Rattle.gtp_session.specs.declared.events.CommandFault.{CommandFault}
use Rattle.gtp_session.specs.declared.commands.CommandName.{CommandName}
use Rattle.gtp_session.specs.declared.commands.CommandName.TheVariants as command
use Rattle.gtp_session.proofs.table.Listed.{known_words}
use Rattle.gtp_session.proofs.reply_texts.NeatTexts.{IsInk, IsNeat, IsReplyText-neat, neat-joined, neat-word, newline}
use Rattle.gtp_wire.specs.Replies.{IsReplyText}

-- a name that no command has is none of theirs
not_there : (commands : List (List ℕ)) (name : List ℕ) → has_command commands name ≡ false
    → (k : ℕ) (d : List ℕ) → k < length commands → get_or commands k d ≢ name
not_there commands name none k d inside same =
    let found : has_command commands name ≡ true =
    list_any_at (λ own. bytes_eq own name) commands k d inside ((bytes_eq-Decides (get_or commands k d) name).1 same) in
    absurd (cc (found, none))

-- with a name that may be added
pub more_commands : (commands : List (List ℕ)) (name : List ℕ) → AreOwnCommands commands → MayBeAdded commands name
    → AreOwnCommands (commands ++ name ∷ [])
more_commands commands name are may = record {
  few = omega (arith, length-append commands (name ∷ []), may.room);
  words = All-push IsOwnName commands name are.words may.word;
  no_table = All-push (λ own. command_named own ≡ None) commands name are.no_table may.no_table;
  once = all_pairs_push (λ a b. a ≢ b) commands name are.once (not_there commands name may.no_own);
}

-- The names of the table's commands have at most 400 bytes: so many leave room for the own ones, and for more commands.
pub table_names_few : (text : List ℕ) → text ≡ all_names → length text ≤ 400
table_names_few text is = rw is (lit≤ tt)

-- a name more
pub listed_more : (commands : List (List ℕ)) (k : ℕ) (d : List ℕ) → k < length commands
    → joined 10 (names_with (take k commands)) (get_or commands k d) ≡ names_with (take (k + 1) commands)
listed_more commands k d inside =
    joined-join_with_byte 10 (map spelled all_commands ++ take k commands) (get_or commands k d) (λ some. lit< tt)
    ∙ ap (join_with_byte 10) (append_assoc (map spelled all_commands) (take k commands) (get_or commands k d ∷ [])
    ∙ ap (λ (t : List (List ℕ)). map spelled all_commands ++ t) (sym (take_more commands k d inside)))

-- ---- the names of all commands may be the text of a reply

ink_byte : (b : ℕ) → is_name_byte b ≡ true → IsInk b
ink_byte b e = record { least = grind (arith, nat_tests); most = grind (arith, nat_tests) }

ink_name : (name : List ℕ) → list_all is_name_byte name ≡ true → AllByRecursion IsInk name
ink_name [] e = tt
ink_name (b ∷ name) e =
    let both = and_parts (is_name_byte b) (list_all is_name_byte name) e in
    (ink_byte b both.0, ink_name name both.1)

neat_name : (name : List ℕ) → IsOwnName name → IsNeat name
neat_name [] is = absurd (omega (arith, is.few.0))
neat_name (b ∷ name) is = neat-word b name (ink_name (b ∷ name) is.bytes)

-- the table's names have such bytes
spelled-name : (c : CommandName) → IsOwnName (spelled c)
spelled-name command.Name = record { few = (lit≤ tt, lit≤ tt); bytes = refl; no_number = refl }
spelled-name c = record { few = (lit≤ tt, lit≤ tt); bytes = refl; no_number = refl }

names_short : (commands : List (List ℕ)) → AllByRecursion IsOwnName commands
    → length (join_with_byte 10 commands) ≤ 33 * length commands
names_short [] all = lit≤ tt
names_short (name ∷ []) all = omega (arith, (all.0).few.1)
names_short (name ∷ next ∷ commands) all =
    omega (
      arith,
      (all.0).few.1,
      length-append name (10 ∷ join_with_byte 10 (next ∷ commands)),
      names_short (next ∷ commands) all.1,
    )

neat_names : (commands : List (List ℕ)) → AllByRecursion IsOwnName commands → AllByRecursion IsNeat commands
neat_names [] all = tt
neat_names (name ∷ commands) all = (neat_name name all.0, neat_names commands all.1)

table_names : (cs : List CommandName) (commands : List (List ℕ)) → AllByRecursion IsOwnName commands
    → AllByRecursion IsOwnName (map spelled cs ++ commands)
table_names [] commands all = all
table_names (c ∷ cs) commands all = (spelled-name c, table_names cs commands all)

neat_first : (words : List (List ℕ)) → 1 ≤ length words → AllByRecursion IsNeat words → IsNeat (join_with_byte 10 words)
neat_first [] some all = absurd (omega (arith, some))
neat_first (word ∷ words) some all = neat-joined 10 word words newline all

-- There are 47 of them at most, of 33 bytes with their newline.
pub names_fit : (commands : List (List ℕ)) → AreOwnCommands commands → IsReplyText (names_with commands)
names_fit commands are =
    let words = map spelled all_commands ++ commands in
    let long = length-append (map spelled all_commands) commands in
    let all : AllByRecursion IsOwnName words =
    table_names all_commands commands (recursion_from_All IsOwnName commands are.words) in
    IsReplyText-neat (names_with commands) (omega (arith, names_short words all, are.few, long))
    (neat_first words (omega (arith, long)) (neat_names words all))

-- none
pub no_commands : (commands : List (List ℕ)) → commands ≡ [] → AreOwnCommands commands
no_commands commands e = rw e (record {
  few = lit≤ tt;
  words = λ k d inside. absurd (omega (arith, inside));
  no_table = λ k d inside. absurd (omega (arith, inside));
  once = λ i j d before inside. absurd (omega (arith, inside));
})

-- after a call that adds a name, or is refused
pub commands_kept : (old new : List (List ℕ)) (name : List ℕ) (result : Result (Unit {0}) CommandFault)
    → OnOk result (new ≡ old ++ name ∷ []) → OnOk result (MayBeAdded old name) → OnErr result (new ≡ old)
    → AreOwnCommands old → AreOwnCommands new
commands_kept old new name (Ok done) added may kept are = rw added (more_commands old name are may)
commands_kept old new name (Err fault) added may kept are = rw kept are

-- ---- what is known is listed

added_there : (commands : List (List ℕ)) (word : List ℕ) → has_command commands word ≡ true → Contains commands word
added_there commands word e =
    let found = Any-from_list_any (λ own. bytes_eq own word) commands e in
    let same : found.1 ≡ word = (bytes_eq-Decides found.1 word).0 found.4 in
    subst (λ (x : List ℕ). Contains commands x) same (found.0, found.2, found.3)

there_added : (commands : List (List ℕ)) (word : List ℕ) → Contains commands word → has_command commands word ≡ true
there_added commands word h =
    list_any_at (λ own. bytes_eq own word) commands h.0 word h.1
    ((bytes_eq-Decides (get_or commands h.0 word) word).1 h.2)

known_listed : (commands : List (List ℕ)) (word : List ℕ)
    → IsTrue (is_known commands word) ↔ Contains (map spelled all_commands ++ commands) word
known_listed commands word = (
  λ e. elim (or_cases (is_some (command_named word)) (has_command commands word) e) [
    | inl table ↦ Contains-append_left (map spelled all_commands) commands word ((known_words word).0 table)
    | inr own ↦ Contains-append_right (map spelled all_commands) commands word (added_there commands word own)
  ],
  λ h. elim (Contains-append_cases (map spelled all_commands) commands word h) [
    | inl table ↦ or_left (is_some (command_named word)) (has_command commands word) ((known_words word).1 table)
    | inr own ↦ or_right (is_some (command_named word)) (has_command commands word) (there_added commands word own)
  ],
)

pub known_is_listed : KnownIsListed
known_is_listed = record { known = known_listed; fits = names_fit }
