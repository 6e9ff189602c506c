-- Laws of what a writer took and a reader gave.
use Rattle.std.proofs.Common.{◌≡◌, ℕ, ◌+◌, ◌<◌, ◌≤◌, List, [], ◌∷◌, ◌++◌, length, take, Option, sym, ap, ◌∙◌, subst}
use Rattle.std.proofs.Common.{append_assoc, arith}
use Rattle.std.proofs.lemmas.List.{length-append, length-take-le}
use Rattle.std.proofs.KnownBytes.{Appends-nil, Appends-trans, Consumes-nil, Consumes-trans}
use Rattle.std.specs.Io.KnownBytes.{Consumes}
use Rattle.std.specs.List.{concat}
use Rattle.std.specs.Prelude.{map, nat_lt, if◌then◌else◌}
use Rattle.std.proofs.lemmas.List.Folds.{concat-append}
use Rattle.std.proofs.lemmas.List.{map-append}
use Rattle.std.proofs.lemmas.Bool.Decides.{nat_tests}
use Rattle.byte_streams.specs.Counts.{raised}
use Rattle.gtp_wire.specs.Lines.{lines}
use Rattle.gtp_session.specs.Policy.{May}
use Rattle.gtp_session.specs.Engine.{Engine, WrittenReply, output_of}
use Rattle.gtp_session.specs.Conversation.{Delivered, Breaks, Conversation, BrokenConversation, ReadWhileOpen}
use Rattle.gtp_session.specs.Conversation.{GivesAtLeast}
use Rattle.gtp_session.proofs.engines.Replying.{Replies-nothing, Replies-then}

-- the reader gave these bytes, at least one, and put them at the front of the buffer
pub record GivesBytes (gives gives_now : Option (List ℕ)) (count : ℕ) (buffer : List ℕ) : Type 0 where
  pub some : 0 < count
  pub within : count ≤ length buffer
  pub given : Consumes gives gives_now (take count buffer)

pub gave_bytes : (gives gives_now : Option (List ℕ)) (count : ℕ) (buffer : List ℕ) → 0 < count → count ≤ length buffer
    → Consumes gives gives_now (take count buffer) → GivesBytes gives gives_now count buffer
gave_bytes gives gives_now count buffer some within given = record { some = some; within = within; given = given }

-- then the end of the input was not found
pub ends_same : (count ends ends_now : ℕ) → 0 < count → ends_now ≡ (if nat_lt 0 count then ends else raised ends 1)
    → ends_now ≡ ends
ends_same count ends ends_now some e = grind (arith, nat_tests)

-- the output of replies after others
pub output_of-append : (rs ss : List WrittenReply) → output_of (rs ++ ss) ≡ output_of rs ++ output_of ss
output_of-append rs ss =
    ap concat (map-append (λ reply. reply.text) rs ss)
    ∙ concat-append (map (λ reply. reply.text) rs) (map (λ reply. reply.text) ss)

module _ {P : Type 0} (may : May P) where
  -- nothing is read, and nothing is written
  pub Delivered-nothing : (a : Engine P) (held : Option (List ℕ)) → lines a.rest ≡ [] → Delivered may a [] a held held
  Delivered-nothing a held e = record { replies = []; engine = Replies-nothing may a e; taken = Appends-nil held }

  -- both were delivered
  pub Delivered-both : {a b c : Engine P} {text next : List ℕ} {held mid holds : Option (List ℕ)}
      → Delivered may a text b held mid → Delivered may b next c mid holds → Delivered may a (text ++ next) c held holds
  Delivered-both {held = held} {mid = mid} {holds = holds} p q =
      record {
        replies = p.replies ++ q.replies;
        engine = Replies-then may p.engine q.engine;
        taken = rw (output_of-append p.replies q.replies) (Appends-trans held mid holds _ _ p.taken q.taken);
      }

  -- all was delivered of one text, and the writer breaks in the next
  pub Breaks-after : {a b c : Engine P} {text next : List ℕ} {held mid holds : Option (List ℕ)}
      → Delivered may a text b held mid → Breaks may b next c mid holds → Breaks may a (text ++ next) c held holds
  Breaks-after {a} {b} {c} {text} {next} {held} {mid} {holds} p q =
      record {
        front = text ++ q.front;
        unread = q.unread;
        upto = ap (λ (t : List ℕ). text ++ t) q.upto ∙ sym (append_assoc text q.front (10 ∷ q.unread));
        between = q.between;
        replies = p.replies ++ q.replies;
        before = Replies-then may p.engine q.before;
        last = q.last;
        engine =
            rw (append_assoc text q.front (10 ∷ []), append_assoc p.replies q.replies (q.last ∷ []))
            (Replies-then may p.engine q.engine);
        part = q.part;
        left = q.left;
        cut = q.cut;
        taken =
            rw (output_of-append p.replies q.replies, append_assoc (output_of p.replies) (output_of q.replies) q.part)
            (Appends-trans held mid holds _ _ p.taken q.taken);
      }

  -- nothing was read
  pub Conversation-nothing : (a : Engine P) (gives held : Option (List ℕ)) → lines a.rest ≡ []
      → Conversation may a a gives gives held held
  Conversation-nothing a gives held e =
      record { input = []; given = Consumes-nil gives; delivered = Delivered-nothing a held e }

  -- one conversation after another
  pub Conversation-both : {a b c : Engine P} {g0 g1 g2 h0 h1 h2 : Option (List ℕ)}
      → Conversation may a b g0 g1 h0 h1 → Conversation may b c g1 g2 h1 h2 → Conversation may a c g0 g2 h0 h2
  Conversation-both {g0 = g0} {g1 = g1} {g2 = g2} p q =
      record {
        input = p.input ++ q.input;
        given = Consumes-trans g0 g1 g2 _ _ p.given q.given;
        delivered = Delivered-both p.delivered q.delivered;
      }

  pub BrokenConversation-after : {a b c : Engine P} {g0 g1 g2 h0 h1 h2 : Option (List ℕ)} {last : Option ℕ}
      → Conversation may a b g0 g1 h0 h1 → BrokenConversation may b c g1 g2 last h1 h2
      → BrokenConversation may a c g0 g2 last h0 h2
  unfolding Breaks-after
  BrokenConversation-after {g0 = g0} {g1 = g1} {g2 = g2} p q =
      record {
        input = p.input ++ q.input;
        given = Consumes-trans g0 g1 g2 _ _ p.given q.given;
        breaks = Breaks-after p.delivered q.breaks;
        in_last = q.in_last;
      }

  -- the session was open when the last read came, also of both together
  pub ReadWhileOpen-after : {a b : Engine P} {g0 g1 g2 h0 h1 : Option (List ℕ)} {last : Option ℕ}
      → Conversation may a b g0 g1 h0 h1 → ReadWhileOpen may b g1 g2 last → ReadWhileOpen may a g0 g2 last
  ReadWhileOpen-after {g0 = g0} {g1 = g1} {g2 = g2} p q =
      record {
        before = p.input ++ q.before;
        piece = q.piece;
        given = rw (append_assoc p.input q.before q.piece) (Consumes-trans g0 g1 g2 _ _ p.given q.given);
        last_is = q.last_is;
        between = q.between;
        replies = p.delivered.replies ++ q.replies;
        engine = Replies-then may p.delivered.engine q.engine;
        is_open = q.is_open;
      }

-- a reader that was not read gave nothing
pub GivesAtLeast-nothing : (gives : Option (List ℕ)) → GivesAtLeast gives gives 0
GivesAtLeast-nothing gives = record { input = []; given = Consumes-nil gives; enough = omega arith }

-- what it gave first and then
pub GivesAtLeast-both : {a b c : Option (List ℕ)} {m n : ℕ} → GivesAtLeast a b m → GivesAtLeast b c n
    → GivesAtLeast a c (m + n)
GivesAtLeast-both {a = a} {b = b} {c = c} p q =
    record {
      input = p.input ++ q.input;
      given = Consumes-trans a b c _ _ p.given q.given;
      enough = omega (arith, length-append p.input q.input, p.enough, q.enough);
    }

-- one read more, which gave at least one byte
pub GivesAtLeast-read : {a b c : Option (List ℕ)} {m : ℕ} (count : ℕ) (buffer : List ℕ) → GivesAtLeast a b m
    → GivesBytes b c count buffer → GivesAtLeast a c (m + 1)
GivesAtLeast-read count buffer p q =
    GivesAtLeast-both p (record {
      input = take count buffer;
      given = q.given;
      enough = omega (arith, length-take-le count buffer, q.some, q.within);
    })

-- a read that gave nothing changes nothing
pub GivesAtLeast-end : {a b c : Option (List ℕ)} {m : ℕ} → GivesAtLeast a b m → Consumes b c [] → GivesAtLeast a c m
GivesAtLeast-end {a} {b} {c} {m} gave none =
    subst (λ (n : ℕ). GivesAtLeast a c n) (omega arith)
    (GivesAtLeast-both {n = 0} gave (record { input = []; given = none; enough = omega arith }))
