-- Why a reply has its outcome.
use Rattle.std.proofs.Common.{◌≡◌, ℕ, List, [], ◌∷◌, Option, Some, None, Bool, true, false, refl, sym, ◌∙◌, ap, subst}
use Rattle.std.proofs.Common.{cond, Decides, arith, inl, inr, ◌&&◌}
use Rattle.std.specs.Prelude.{◌⊎◌, codes, option_map}
use Rattle.std.specs.Str.{str_to_ascii_lowercase}
use Rattle.std.proofs.lemmas.Bool.Decides.{nat_tests}
use Rattle.std.proofs.lemmas.Slice.Eq.{bytes_eq-Decides}
use Rattle.go_base.specs.Handicap.{handicap_points}
use Rattle.go_base.specs.Vertex.{vertex_of}
use Rattle.go_base.specs.Word.{IsWord, is_word}
use Rattle.go_base.specs.declared.colours.Colour.{Colour}
use Rattle.go_base.specs.declared.vertices.Vertex.{Vertex}
use Rattle.go_base.proofs.spellings.SpelledVertices.{vertex_of_spelled, spells_vertex_of}
use Rattle.go_base.specs.Decide.{holds}
use Rattle.go_board.specs.Game.{GameRecord, IsLegal}
use Rattle.go_board.specs.decisions.Game.{legal?}
use Rattle.gtp_wire.specs.declared.commands.Command.{Command}
use Rattle.gtp_wire.specs.declared.commands.Command.TheVariants as command
use Rattle.gtp_wire.specs.declared.replies.Reply.{Reply}
use Rattle.gtp_match.specs.declared.reply_table.Outcome.{Outcome}
use Rattle.gtp_match.specs.declared.reply_table.Outcome.TheVariants.{Down, Unfit, Forfeits, Confirms, Resigns, Moves}
use Rattle.gtp_match.specs.declared.reply_table.Outcome.TheVariants.{Refuses, TakesBack, Keeps}
use Rattle.gtp_match.specs.declared.unanswered.SentCommand.{SentCommand}
use Rattle.gtp_match.specs.declared.verdicts.ForfeitCause.TheVariants.{RefusedPlay, NoMove, NoVertex, IllegalMove}
use Rattle.gtp_match.specs.declared.verdicts.SideFault.{SideFault}
use Rattle.gtp_match.specs.declared.verdicts.SideFault.TheVariants.{WrongId, Unasked}
use Rattle.go_base.specs.declared.choices.Choice.TheVariants.{Resign, Play}
use Rattle.gtp_match.specs.ReplyTable.{outcome, outcome_of, script_outcome, play_outcome, choice_outcome, is_handicap}
use Rattle.gtp_match.specs.ReplyTable.{undo_outcome, has_id}
use Rattle.gtp_wire.specs.Words.{reply_words}
use Rattle.gtp_wire.specs.ReplyWords.{choice_of_words}
use Rattle.gtp_match.specs.Replying.{IsGenmove, ChoosesVertex, ChoosesMove, ChoosesResign, NamesOtherPoints, IsUnfit}
use Rattle.gtp_match.specs.Replying.{ChoosesNothing, PlayFails, UndoSucceeds, UndoFails}
use Rattle.gtp_match.specs.Sound.{IsPlay, IsUndo}
use Rattle.gtp_wire.proofs.texts.Points.{names_them}

-- what a reply to the command has said where this is its outcome
abbrev pub Reason : GameRecord → Colour → Command → Reply → Outcome → Type 0
Reason game s k reply (Down fault) = Unit {0}
Reason game s k reply Unfit = IsUnfit game k reply
Reason game s k reply (Forfeits RefusedPlay) = ⊥
Reason game s k reply (Forfeits NoMove) = IsGenmove k × (reply.ok ≡ false)
Reason game s k reply (Forfeits NoVertex) = ChoosesNothing k reply
Reason game s k reply (Forfeits IllegalMove) =
    (vertex : Vertex) × ChoosesVertex vertex k reply × ¬ IsLegal game s vertex
Reason game s k reply Confirms = reply.ok ≡ true
Reason game s k reply Resigns = ChoosesResign k reply
Reason game s k reply (Moves v) = (reply.ok ≡ true) × ChoosesMove game s v k reply
Reason game s k reply Refuses = PlayFails k reply
Reason game s k reply TakesBack = UndoSucceeds k reply
Reason game s k reply Keeps = UndoFails k reply

both_true : (a b : Bool) → (a && b) ≡ true → a ≡ true
both_true true b e = refl
both_true false b e = absurd (cc)

not_both : (a b : Bool) → (a && b) ≡ false → (a ≡ false) ⊎ (b ≡ false)
not_both true b e = inr e
not_both false b e = inl refl

module _ (game : GameRecord) (s : Colour) (reply : Reply) where
  script_reason : (k : Command) → ¬ IsPlay k → ¬ IsGenmove k → ¬ IsUndo k → (b : Bool) → (b ≡ true → reply.ok ≡ true)
      → (b ≡ false → (reply.ok ≡ false) ⊎ NamesOtherPoints game k reply) → Reason game s k reply (script_outcome b)
  script_reason k no_play no_genmove no_undo true good bad = good refl
  script_reason k no_play no_genmove no_undo false good bad = record {
    no_play = no_play;
    no_genmove = no_genmove;
    no_undo = no_undo;
    why = bad refl;
  }

  handicap_reason : (stones : ℕ) → ¬ IsPlay (command.FixedHandicap stones) → ¬ IsGenmove (command.FixedHandicap stones)
      → ¬ IsUndo (command.FixedHandicap stones)
      → Reason game s (command.FixedHandicap stones) reply (script_outcome (reply.ok && is_handicap game stones reply))
  handicap_reason stones no_play no_genmove no_undo =
      script_reason (command.FixedHandicap stones) no_play no_genmove no_undo
      (reply.ok && is_handicap game stones reply)
      (both_true reply.ok (is_handicap game stones reply))
      (λ e. by_case (not_both reply.ok (is_handicap game stones reply) e))
    where
      by_case : (reply.ok ≡ false) ⊎ (is_handicap game stones reply ≡ false)
          → (reply.ok ≡ false) ⊎ NamesOtherPoints game (command.FixedHandicap stones) reply
      by_case (inl failed) = inl failed
      by_case (inr other) =
          inr (record {
            stones = stones;
            handicap = refl;
            other_points = λ names.
                let same : false ≡ true =
                sym other
                ∙ names_them (handicap_points game.size stones) (reply_words reply.text.items) names in
                cc;
          })

  play_reason : (k : Command) → IsPlay k → (ok : Bool) → reply.ok ≡ ok → Reason game s k reply (play_outcome ok)
  play_reason k is true e = e
  play_reason k is false e = (is, e)

  undo_reason : (k : Command) → IsUndo k → (ok : Bool) → reply.ok ≡ ok → Reason game s k reply (undo_outcome ok)
  undo_reason k is true e = (is, e)
  undo_reason k is false e = (is, e)

  -- ---- a `genmove` that succeeded

  module _ (k : Command) (asked : IsGenmove k) (ok : reply.ok ≡ true) where
    legal_reason : (v : Vertex) → ChoosesVertex v k reply → (d : Dec (IsLegal game s v))
        → Reason game s k reply (cond (holds d) (Moves v) (Forfeits IllegalMove))
    legal_reason v chosen (yes legal) = (ok, (chosen, legal))
    legal_reason v chosen (no illegal) = (v, chosen, illegal)

    word_reason : (w : List ℕ) → reply_words reply.text.items ≡ w ∷ [] → (b : Bool)
        → Decides b (IsWord (codes "resign") w)
        → (x : Option Vertex) → vertex_of w ≡ x
        → Reason game s k reply (choice_outcome game s (cond b (Some Resign) (option_map Play x)))
    word_reason w one true d x e =
        record { asked = asked; succeeds = ok; word = w; one_word = one; spelled = d.0 refl }
    word_reason w one false d None e = record {
      asked = asked;
      succeeds = ok;
      no_resign = λ word is spelled.
          let same : w ∷ [] ≡ word ∷ [] = sym one ∙ is in
          let w_is : word ≡ w = cc in
          let b : false ≡ true = d.1 (subst (IsWord (codes "resign")) w_is spelled) in
          cc;
      no_vertex = λ word vertex is spelled.
          let same : w ∷ [] ≡ word ∷ [] = sym one ∙ is in
          let w_is : w ≡ word = cc in
          let some : None ≡ Some vertex = sym e ∙ ap vertex_of w_is ∙ vertex_of_spelled vertex word spelled in
          cc;
    }
    word_reason w one false d (Some v) e =
        legal_reason v (record {
          asked = asked;
          succeeds = ok;
          word = w;
          one_word = one;
          spelled = spells_vertex_of v w e;
        }) (legal? game s v)

    words_reason : (words : List (List ℕ)) → reply_words reply.text.items ≡ words
        → Reason game s k reply (choice_outcome game s (choice_of_words words))
    words_reason [] e = record {
      asked = asked;
      succeeds = ok;
      no_resign = λ word is spelled. let both : [] ≡ word ∷ [] = sym e ∙ is in cc;
      no_vertex = λ word vertex is spelled. let both : [] ≡ word ∷ [] = sym e ∙ is in cc;
    }
    words_reason (w ∷ []) e =
        word_reason w e (is_word (codes "resign") w)
        (bytes_eq-Decides (str_to_ascii_lowercase w) (codes "resign")) (vertex_of w) refl
    words_reason (w ∷ other ∷ words) e = record {
      asked = asked;
      succeeds = ok;
      no_resign = λ word is spelled. let both : w ∷ other ∷ words ≡ word ∷ [] = sym e ∙ is in cc;
      no_vertex = λ word vertex is spelled. let both : w ∷ other ∷ words ≡ word ∷ [] = sym e ∙ is in cc;
    }

  genmove_reason : (k : Command) → IsGenmove k → (ok : Bool) → reply.ok ≡ ok
      → Reason game s k reply (cond ok (choice_outcome game s (choice_of_words (reply_words reply.text.items)))
      (Forfeits NoMove))
  genmove_reason k asked true e = words_reason k asked e (reply_words reply.text.items) refl
  genmove_reason k asked false e = (asked, e)

  pub reason : (k : Command) → Reason game s k reply (outcome_of game s k reply)
  reason (command.Boardsize size) =
      script_reason (command.Boardsize size) (λ p. let e = p.1 in cc) (λ g. let e = g.1 in cc) (λ e. cc) reply.ok
      (λ x. x) (λ x. inl x)
  reason (command.Komi komi) =
      script_reason (command.Komi komi) (λ p. let e = p.1 in cc) (λ g. let e = g.1 in cc) (λ e. cc) reply.ok (λ x. x)
      (λ x. inl x)
  reason command.ClearBoard =
      script_reason command.ClearBoard (λ p. let e = p.1 in cc) (λ g. let e = g.1 in cc) (λ e. cc) reply.ok (λ x. x)
      (λ x. inl x)
  reason (command.FixedHandicap stones) =
      handicap_reason stones (λ p. let e = p.1 in cc) (λ g. let e = g.1 in cc) (λ e. cc)
  reason (command.Play move) = play_reason (command.Play move) (move, refl) reply.ok refl
  reason (command.Genmove colour) = genmove_reason (command.Genmove colour) (colour, refl) reply.ok refl
  reason command.Undo = undo_reason command.Undo refl reply.ok refl
  reason command.Quit =
      script_reason command.Quit (λ p. let e = p.1 in cc) (λ g. let e = g.1 in cc) (λ e. cc) reply.ok (λ x. x)
      (λ x. inl x)

-- ---- the command that a reply answers

-- an outcome that puts no side down
abbrev pub IsNoFault : Outcome → Type 0
IsNoFault o = (f : SideFault) → Down f ≡ o → ⊥

pub record RepliesTo (game : GameRecord) (s : Colour) (asked : Option SentCommand) (reply : Reply) (o : Outcome)
    : Type 0 where
  pub entry : SentCommand
  pub asked_is : asked ≡ Some entry
  pub id : reply.id ≡ Some entry.id
  pub reason : Reason game s entry.command reply o

same_id : (x : Option ℕ) (id : ℕ) → has_id x id ≡ true → x ≡ Some id
same_id None id e = absurd (cc)
same_id (Some n) id e = let same : n ≡ id = grind (arith, nat_tests) in ap (λ k. Some k) same

-- what is no fault answers the command that was asked, for its reason
pub replies_to : (game : GameRecord) (s : Colour) (asked : Option SentCommand) (reply : Reply) (o : Outcome)
    → IsNoFault o → outcome game s asked reply ≡ o → RepliesTo game s asked reply o
replies_to game s None reply o no_fault e = absurd (no_fault Unasked e)
replies_to game s (Some entry) reply o no_fault e = by_id (has_id reply.id entry.id) refl
  where
    by_id : (same : Bool) → has_id reply.id entry.id ≡ same → RepliesTo game s (Some entry) reply o
    by_id true same =
        let out : outcome_of game s entry.command reply ≡ o = rw same at e in
        record {
          entry = entry;
          asked_is = refl;
          id = same_id reply.id entry.id same;
          reason = subst (Reason game s entry.command reply) out (reason game s reply entry.command);
        }
    by_id false same = absurd (no_fault WrongId (rw same at e))
