-- Replies of example bytes, computed.
use Rattle.std.proofs.Common.{◌≡◌, ℕ, List, [], ◌∷◌, ◌++◌, Option, Some, None, Bool, true, false, refl, lit≤}
use Rattle.std.specs.Prelude.{codes}
use Rattle.std.specs.Fmt.{digits}
use Rattle.gtp_wire.specs.declared.replies.Reply.{Reply}
use Rattle.gtp_wire.specs.Replies.{IsReply, IsNoStatus, past_blanks, written_reply}

abbrev reply : Bool → Option ℕ → List ℕ → Reply
reply ok id text = record { ok = ok; id = id; text = record { items = text } }

-- newlines in front are skipped, and CR is removed
newlines_in_front : IsReply (10 ∷ 10 ∷ codes "=1 ok" ++ 13 ∷ 10 ∷ 13 ∷ 10 ∷ []) (reply true (Some 1) (codes "ok"))
unfolding past_blanks
newlines_in_front = record {
  whole = record {
    fits = lit≤ tt;
    front = 10 ∷ 10 ∷ codes "=1 ok" ++ 13 ∷ 10 ∷ 13 ∷ [];
    last = refl;
    status = 61;
    body = codes "1 ok";
    shape = refl;
    known = refl;
    first_end = refl;
  };
  value_is = refl;
}

-- no id, and spaces at both ends of the text
spaces_at_the_ends : IsReply (codes "= D4 " ++ 10 ∷ 10 ∷ []) (reply true None (codes "D4"))
unfolding past_blanks
spaces_at_the_ends = record {
  whole = record {
    fits = lit≤ tt;
    front = codes "= D4 " ++ 10 ∷ [];
    last = refl;
    status = 61;
    body = codes " D4 ";
    shape = refl;
    known = refl;
    first_end = refl;
  };
  value_is = refl;
}

-- a text straight after the id
text_after_the_id : IsReply (codes "=12D4" ++ 10 ∷ 10 ∷ []) (reply true (Some 12) (codes "D4"))
unfolding past_blanks
text_after_the_id = record {
  whole = record {
    fits = lit≤ tt;
    front = codes "=12D4" ++ 10 ∷ [];
    last = refl;
    status = 61;
    body = codes "12D4";
    shape = refl;
    known = refl;
    first_end = refl;
  };
  value_is = refl;
}

-- digits that are no int are text
digits_that_are_no_int : IsReply (codes "=99999999999 a" ++ 10 ∷ 10 ∷ []) (reply true None (codes "99999999999 a"))
unfolding past_blanks
digits_that_are_no_int = record {
  whole = record {
    fits = lit≤ tt;
    front = codes "=99999999999 a" ++ 10 ∷ [];
    last = refl;
    status = 61;
    body = codes "99999999999 a";
    shape = refl;
    known = refl;
    first_end = refl;
  };
  value_is = refl;
}

-- a failure whose text has two rows
two_rows : IsReply (codes "?1 a" ++ 10 ∷ codes "b" ++ 10 ∷ 10 ∷ []) (reply false (Some 1) (codes "a" ++ 10 ∷ codes "b"))
unfolding past_blanks
two_rows = record {
  whole = record {
    fits = lit≤ tt;
    front = codes "?1 a" ++ 10 ∷ codes "b" ++ 10 ∷ [];
    last = refl;
    status = 63;
    body = codes "1 a" ++ 10 ∷ codes "b";
    shape = refl;
    known = refl;
    first_end = refl;
  };
  value_is = refl;
}

-- another byte than a status
another_byte : IsNoStatus (codes "h")
unfolding past_blanks
another_byte = record { fits = lit≤ tt; byte = 104; more = []; shape = refl; other = refl }

-- a reply that is written
a_written_failure : written_reply false (Some 5) (codes "unknown command") ≡ codes "?5 unknown command" ++ 10 ∷ 10 ∷ []
unfolding digits
a_written_failure = refl
