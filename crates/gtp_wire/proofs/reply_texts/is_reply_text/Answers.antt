use Rattle.std.proofs.Common.{◌≡◌, ◌∙◌, Bool, true, false, refl, sym, not}
use Rattle.std.specs.Prelude.{IsTrue}
use Rattle.gtp_wire.proofs.reply_texts.is_reply_text.Goals as goal

not_true : (b d : Bool) → b ≡ d → IsTrue (not b) → d ≡ false
not_true true d e t = cc
not_true false d e t = sym e

true_not : (b d : Bool) → b ≡ d → d ≡ false → IsTrue (not b)
true_not true d e f = cc
true_not false d e f = refl

pub returns : goal.returns
returns c = (
  λ t. record {
    fits = c.if-text-gt-MOST_TEXT_BYTES.false;
    shown = sym c.all_shown.ensures ∙ c.if-not-all_shown.false;
    single = sym c.has_two_newlines.ensures ∙ c.if-has_two_newlines.false;
    front = sym c.begins_blank.ensures ∙ c.if-begins_blank.false;
    end = not_true _ _ c.ends_blank.ensures t;
  },
  λ is. true_not _ _ c.ends_blank.ensures is.end,
)
