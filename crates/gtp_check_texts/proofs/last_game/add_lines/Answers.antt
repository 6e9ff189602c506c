use Rattle.std.proofs.Common.{◌≡◌, ◌∙◌, ◌++◌, ◌∷◌, ◌+◌, ℕ, Bool, List, [], ap, arith, cond, false, sym, true}
use Rattle.std.specs.List.{filter, flat_map, range_with_len}
use Rattle.std.proofs.lemmas.List.{append-nil, flat_map_more, map-id}
use Rattle.std.proofs.lemmas.List.FromFn.{filter_of_map_range_with_len_more}
use Rattle.gtp_check_texts.specs.LastGame.{answered_lines, shows_in}
use Rattle.gtp_check_texts.proofs.last_game.add_lines.Goals as goal
use Rattle.gtp_check_texts.proofs.last_game.add_lines.Goals.{then-shows_in+in_ok-add_answered, else-shows_in}

-- those that pass the test, with one more
filter_more : (p : ℕ → Bool) (count : ℕ)
    → filter p (range_with_len 0 (count + 1)) ≡ filter p (range_with_len 0 count) ++ cond (p count) (count ∷ []) []
filter_more p count =
    ap (filter p) (sym (map-id (range_with_len 0 (count + 1))))
    ∙ filter_of_map_range_with_len_more p (λ (n : ℕ). n) 0 count count (omega arith)
    ∙ ap (λ (all : List ℕ). filter p all ++ cond (p count) (count ∷ []) []) (map-id (range_with_len 0 count))

-- the text with what one more has, where it passes
appended : (f : ℕ → List ℕ) (p : ℕ → Bool) (before : List ℕ) (count : ℕ) (passes : Bool) → passes ≡ p count
    → cond passes ((before ++ flat_map f (filter p (range_with_len 0 count))) ++ f count)
    (before ++ flat_map f (filter p (range_with_len 0 count)))
    ≡ before ++ flat_map f (filter p (range_with_len 0 (count + 1)))
appended f p before count true is =
    flat_map_more f before (filter p (range_with_len 0 count)) count
    ∙ ap (λ (b : Bool). before ++ flat_map f (filter p (range_with_len 0 count) ++ cond b (count ∷ []) [])) is
    ∙ ap (λ (all : List ℕ). before ++ flat_map f all) (sym (filter_more p count))
appended f p before count false is =
    ap (λ (all : List ℕ). before ++ flat_map f all) (sym (append-nil (filter p (range_with_len 0 count))))
    ∙ ap (λ (b : Bool). before ++ flat_map f (filter p (range_with_len 0 count) ++ cond b (count ∷ []) [])) is
    ∙ ap (λ (all : List ℕ). before ++ flat_map f all) (sym (filter_more p count))

pub loop-number-preserved : goal.loop-number-preserved
loop-number-preserved c =
    let lines = answered_lines c.args.complaint.now in
    let here = c.loop-number.number in
    let more = appended lines (shows_in c.args.game) c.args.text.now.items here c.shows_in.result c.shows_in.ensures in
    elim c.if-shows_in.branch [
      | then-shows_in+in_ok-add_answered w ↦ ap (λ text. text.items) w.text-is ∙ w.in_ok-add_answered.ensures
          ∙ ap (λ (all : List ℕ). all ++ lines here) c.loop-number.invariant
          ∙ ap (λ (b : Bool). cond b ((c.args.text.now.items
          ++ flat_map lines (filter (shows_in c.args.game) (range_with_len 0 here))) ++ lines here)
          (c.args.text.now.items ++ flat_map lines (filter (shows_in c.args.game) (range_with_len 0 here))))
          (sym w.if-shows_in.true) ∙ more
      | else-shows_in w ↦ ap (λ text. text.items) w.text-is ∙ c.loop-number.invariant
          ∙ ap (λ (b : Bool). cond b ((c.args.text.now.items
          ++ flat_map lines (filter (shows_in c.args.game) (range_with_len 0 here))) ++ lines here)
          (c.args.text.now.items ++ flat_map lines (filter (shows_in c.args.game) (range_with_len 0 here))))
          (sym w.if-shows_in.false) ∙ more
    ]
