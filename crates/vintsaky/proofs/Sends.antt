-- What the proofs that handles may go to other threads share.
use base.Fraction.{full_share}
use base.Shift.{Keyless}
use denote.Builtin.{RawPtr}
use denote.Exit.{Exit, Kept, unchanged, leaves, hidden, under}
use denote.Param.Send.{IsSend, AllSend, Quiet, part_keyless, struct_send, sendable}
use denote.RattleType.{RattleType}
use denote.RawPtr.{Ptr, block_ptr, null_ptr, lies_at}
use denote.Struct.Owning.{Owning, shape, fields, to}
use denote.Struct.Struct.{exits_of}

pub pointer_send : IsSend RawPtr
pointer_send = search sendable

-- what lies in memory names no thread's token, where its type may go to another thread
pub lies_keyless : (T : RattleType) → IsSend T → (p : Ptr) (x : T.Denot) → Keyless (lies_at T full_share p x)
lies_keyless T sent (block_ptr b o) x = part_keyless T sent full_share x b o
lies_keyless T sent null_ptr x = tt

quiet : {D X : Type 0} (of : D → X) (e : Exit X) → Quiet e → Quiet (hidden (under of e))
quiet of unchanged q = λ x w. tt
quiet of (leaves L l S s r) q = λ d. q (of d)

-- nor does what a handle leaves when it is used up
pub exits_quietly : (O : Owning) → AllSend (fields O) → (k : Kept) → Quiet (hidden (under (to O) (exits_of k (fields O))))
exits_quietly O sent k = quiet (to O) (exits_of k (fields O)) ((struct_send (shape O) sent).leaving k)
