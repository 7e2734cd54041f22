-- A memory of more words than the longest report has serves as one of that length.
use Rattle.std.specs.Prelude.{◌≡◌, List, ℕ, ◌/◌, ◌≤◌, min, length, take, drop, Ok}
use Rattle.std.proofs.Common.{sym, ap, ◌∙◌, arith, le-leb, take_at}
use Rattle.std.proofs.Math.Decide.{dec_le}
use Rattle.numbers.specs.Put.{put, put_front}
use Rattle.model.proofs.Length.{report-length}
use Rattle.model.specs.Report.{longest_report}
use Rattle.model.specs.Netting.{net, dvp}
use Rattle.model.specs.Calls.{verdict, net_after, answer, answer_of, room_answer, needed, report, memory_after}
use Rattle.model.proofs.Outcome.{answer-report, needed_most}
use Rattle.model.specs.Bytes.{words_of}
use Rattle.model.proofs.ByteWords.{words_length}
use Rattle.byte_room.specs.Room.{room_of}

-- the same answer
same_room : (n room : ℕ) → n ≤ longest_report → room_answer n (min room longest_report) ≡ room_answer n room
same_room n room h = by (dec_le longest_report room)
  where
    by : Dec (longest_report ≤ room) → room_answer n (min room longest_report) ≡ room_answer n room
    by (yes p) = let e : min room longest_report ≡ longest_report = omega arith in rw (e, le-leb n longest_report h, le-leb n room (omega arith))
    by (no p) = let e : min room longest_report ≡ room = omega arith in rw e

pub answer_room : (d b x : List ℕ) (len : ℕ) → answer d b x (room_of len) ≡ answer d b x (len / 4)
unfolding answer
answer_room d b x len = ap (answer_of (verdict d b x)) (same_room (needed d b) (len / 4) (needed_most d b))

-- ---- a report in its memory

-- an answer that is a report has room for it, and its length is the report's
pub answer_fits : (d b x : List ℕ) (room n : ℕ) → answer d b x room ≡ Ok n → (n ≤ room) × (n ≡ length (report d b x))
answer_fits d b x room n e =
    let z = answer-report d b x room n e in
    (omega (arith, z.1, z.2), z.1 ∙ sym (report-length d (net b) (net_after d b x) (dvp b)))

-- the report's words are the front of the memory after it
pub report-front : (d b x m : List ℕ) (n : ℕ) → answer d b x (length m) ≡ Ok n → take n (memory_after d b x m) ≡ report d b x
unfolding memory_after
report-front d b x m n e = rw e (take_at (report d b x) (drop n m) n (sym (answer_fits d b x (length m) n e).1))

-- the words of a file, read from the front of the memory x that they were written into
pub front_words : (bytes l x : List ℕ) → x ≡ put 0 (words_of bytes) l → take (length bytes / 4) x ≡ words_of bytes
front_words bytes l x e =
    ap (take (length bytes / 4)) (e ∙ put_front (words_of bytes) l)
    ∙ take_at (words_of bytes) (drop (length (words_of bytes)) l) (length bytes / 4) (words_length bytes)
