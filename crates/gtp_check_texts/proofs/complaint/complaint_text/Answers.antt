use Rattle.std.proofs.Common.{◌≡◌, ◌∙◌, ◌++◌, ap, append_assoc, List, [], ◌∷◌, ℕ}
use Rattle.gtp_check_texts.specs.Complaints.{ahead_lines, asked_lines, head_line, hint_of, may_run_on, rule_line}
use Rattle.gtp_check_texts.specs.Complaints.{wrote_line}
use Rattle.gtp_check_texts.specs.Conversation.{after_lines}
use Rattle.gtp_check_texts.specs.reasons.RunOn.{run_on_line}
use Rattle.gtp_check_texts.proofs.complaint.complaint_text.Goals as goal

-- a text that was added to those before comes before the rest
added : (before part rest next : List ℕ) → next ≡ before ++ part → next ++ rest ≡ before ++ (part ++ rest)
added before part rest next is = ap (λ (text : List ℕ). text ++ rest) is ∙ append_assoc before part rest

-- texts that are added one after the other
joined : (head talk wrote rule ran ahead ko end : List ℕ) (one two three four five six seven all : List ℕ)
    → one ≡ [] ++ head → two ≡ one ++ talk → three ≡ two ++ wrote → four ≡ three ++ rule → five ≡ four ++ ran
    → six ≡ five ++ ahead → seven ≡ six ++ ko → all ≡ seven ++ (end ++ [])
    → all ≡ head ++ (talk ++ (wrote ++ (rule ++ (ran ++ (ahead ++ (ko ++ (end ++ [])))))))
joined head talk wrote rule ran ahead ko end one two three four five six seven all b c d e f g h i =
    let last = end ++ [] in
    i ∙ added six ko last seven h
    ∙ added five ahead (ko ++ last) six g
    ∙ added four ran (ahead ++ (ko ++ last)) five f
    ∙ added three rule (ran ++ (ahead ++ (ko ++ last))) four e
    ∙ added two wrote (rule ++ (ran ++ (ahead ++ (ko ++ last)))) three d
    ∙ added one talk (wrote ++ (rule ++ (ran ++ (ahead ++ (ko ++ last))))) two c
    ∙ added [] head (talk ++ (wrote ++ (rule ++ (ran ++ (ahead ++ (ko ++ last)))))) one b

pub returns : goal.returns
returns c =
    joined (head_line c.args.complaint.now) (asked_lines c.args.complaint.now)
    (wrote_line c.args.complaint.now.wrote.now)
    (rule_line c.args.complaint.now) (run_on_line (may_run_on c.args.complaint.now))
    (ahead_lines (after_lines c.args.complaint.now))
    (hint_of c.args.complaint.now) (10 ∷ []) _ _ _ _ _ _ _ _
    (c.in_ok-add_head.ensures ∙ ap (λ (text : List ℕ). text ++ head_line c.args.complaint.now) c.new-text.ensures.items)
    c.in_ok-add_asked.ensures c.in_ok-add_wrote.ensures c.in_ok-add_rule.ensures c.in_ok-add_run_on.ensures
    (c.in_ok-add_ahead.ensures
    ∙ ap (λ (lines : List ℕ). c.add_run_on.new.text.items ++ ahead_lines lines) c.after_lines.ensures)
    (c.in_ok-extend_from_slice.ensures.items
    ∙ ap (λ (line : List ℕ). c.add_ahead.new.text.items ++ line) c.hint.ensures)
    c.in_ok-extend_from_slice-2.ensures.items
