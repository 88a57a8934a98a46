-- What the program says: each text is one line with its line feed.
use Rattle.std.specs.Prelude.{ℕ, List, ◌++◌, codes, decimal}
use Rattle.pg_base.specs.Goal.{goal_word}
use Rattle.pg_base.specs.Side.{side_word}
use Rattle.pg_base.specs.Texts.{count_text}
use Rattle.pg_base.specs.declared.goal.Goal.{Goal}
use Rattle.pg_base.specs.declared.kind.Kind.{Kind}
use Rattle.pg_base.specs.declared.kind.Kind.TheVariants.{MakerBreaker, MakerMaker, AvoiderEnforcer}
use Rattle.pg_base.specs.declared.kind.Kind.TheVariants.{Switching}
use Rattle.pg_base.specs.declared.score.Score.{Score}
use Rattle.pg_base.specs.declared.score.Score.TheVariants.{XWins, YWins, Draw as Drawn}
use Rattle.pg_base.specs.declared.side.Side.{Side}
use Rattle.pg_messages.specs.declared.message.Message.{Message}
use Rattle.pg_messages.specs.declared.message.Message.TheVariants.{Refused, Accepted, Claim, Move}
use Rattle.pg_messages.specs.declared.message.Message.TheVariants.{NoReply, Result, ClassShort}
use Rattle.pg_messages.specs.declared.message.Message.TheVariants.{ClassCut, ClassMaker}
use Rattle.pg_messages.specs.declared.message.Message.TheVariants.{ClassBreaker, ClassFirstMover}
use Rattle.pg_messages.specs.declared.message.Message.TheVariants.{Unknown, LineGame, SwitchingGame}
use Rattle.pg_messages.specs.declared.message.Message.TheVariants.{Expanded, Standing, Recorded}
use Rattle.pg_messages.specs.declared.message.Message.TheVariants.{Lost, Reviewed, UnknownAt}
use Rattle.pg_messages.specs.declared.message.ReplyFault.{ReplyFault}
use Rattle.pg_messages.specs.declared.message.ReplyFault.TheVariants.{NoNumber, NoPoint, Taken}
use Rattle.pg_messages.specs.declared.message.ReplyFault.TheVariants.{Over, NothingToTakeBack}
use Rattle.pg_messages.specs.declared.refusal.Refusal.{Refusal}
use Rattle.pg_messages.specs.declared.refusal.Refusal.TheVariants.{NoMeaning, NoClaim, Game}
use Rattle.pg_messages.specs.declared.refusal.Refusal.TheVariants.{Certificate, Rejected}
use Rattle.pg_messages.specs.declared.refusal.Refusal.TheVariants.{RejectedSpan, RejectedVectors}
use Rattle.pg_messages.specs.declared.refusal.Refusal.TheVariants.{RejectedImage, Record}

-- ---- refusals

-- a fault of a file: the file's sign, the number of the fault, and that of its line
abbrev pub file_fault_text : List ℕ → ℕ → ℕ → List ℕ
file_fault_text file number line =
    file ++ (decimal number ++ (codes " line " ++ (decimal line ++ codes "\n")))

-- words that ask for nothing that the program does
abbrev pub no_meaning_text : List ℕ
no_meaning_text = codes "words: no meaning\n"

-- a side of which the certificate has no claim with the game's turn
abbrev pub no_claim_text : Side → List ℕ
no_claim_text side = codes "words: no claim for side " ++ (side_word side ++ codes "\n")

-- a fault of the game file: its number, and that of its line
abbrev pub game_text : ℕ → ℕ → List ℕ
game_text number line = file_fault_text (codes "game G") number line

-- a fault of the certificate file: its number, and that of its line
abbrev pub certificate_text : ℕ → ℕ → List ℕ
certificate_text number line = file_fault_text (codes "certificate C") number line

-- a certificate that isn't valid: the sign of its faults, the number of the first faulty claim, and
-- that of the fault
abbrev pub faulty_claim_text : List ℕ → ℕ → ℕ → List ℕ
faulty_claim_text sign claim why =
    sign ++ (decimal why ++ (codes " claim " ++ (decimal claim ++ codes "\n")))

-- the same with the number of the claim's first faulty node
abbrev pub faulty_node_text : List ℕ → ℕ → ℕ → ℕ → List ℕ
faulty_node_text sign claim node why = sign ++ (decimal why
    ++ (codes " claim " ++ (decimal claim ++ (codes " node " ++ (decimal node ++ codes "\n")))))

-- a certificate of a game on lines, or of a switching game
abbrev pub rejected_text : ℕ → ℕ → ℕ → List ℕ
rejected_text claim node why = faulty_node_text (codes "rejected J") claim node why

-- one of a connectivity game
abbrev pub rejected_span_text : ℕ → ℕ → List ℕ
rejected_span_text claim why = faulty_claim_text (codes "rejected S") claim why

-- one of a game on vectors
abbrev pub rejected_vectors_text : ℕ → ℕ → ℕ → List ℕ
rejected_vectors_text claim node why = faulty_node_text (codes "rejected V") claim node why

-- one with nodes that stand for turned or reflected ones
abbrev pub rejected_image_text : ℕ → ℕ → ℕ → List ℕ
rejected_image_text claim node why = faulty_node_text (codes "rejected I") claim node why

-- a fault of the record file: its number, and that of its line
abbrev pub record_text : ℕ → ℕ → List ℕ
record_text number line = file_fault_text (codes "record F") number line

abbrev pub refusal_text : Refusal → List ℕ
refusal_text NoMeaning = no_meaning_text
refusal_text (NoClaim side) = no_claim_text side
refusal_text (Game number line) = game_text number line
refusal_text (Certificate number line) = certificate_text number line
refusal_text (Rejected claim node why) = rejected_text claim node why
refusal_text (RejectedSpan claim why) = rejected_span_text claim why
refusal_text (RejectedVectors claim node why) = rejected_vectors_text claim node why
refusal_text (RejectedImage claim node why) = rejected_image_text claim node why
refusal_text (Record number line) = record_text number line

-- ---- claims, moves and outcomes

-- a claim that is accepted: who moves first, the side, and the goal that it forces
abbrev pub accepted_text : Side → Side → Goal → List ℕ
accepted_text turn side goal = codes "accepted " ++ (side_word turn
    ++ (codes " " ++ (side_word side ++ (codes " " ++ (goal_word goal ++ codes "\n")))))

-- the claim that is played
abbrev pub claim_text : Side → Goal → List ℕ
claim_text side goal =
    codes "claim " ++ (side_word side ++ (codes " " ++ (goal_word goal ++ codes "\n")))

-- a move of the side that is played
abbrev pub move_text : ℕ → List ℕ
move_text v = codes "move " ++ (decimal v ++ codes "\n")

-- a reply that is no number or is too long, that isn't below the number of points, that names a
-- point that isn't free, that comes after the end of the game, and that takes back where no move
-- stands
abbrev pub reply_text : ReplyFault → List ℕ
reply_text NoNumber = codes "refused: not a number\n"
reply_text NoPoint = codes "refused: no such point\n"
reply_text Taken = codes "refused: taken\n"
reply_text Over = codes "refused: over\n"
reply_text NothingToTakeBack = codes "refused: nothing to take back\n"

-- the word for the outcome of a game of the kind: the name of the side that wins, or `draw`
abbrev pub outcome_word : Kind → Score → List ℕ
outcome_word MakerBreaker XWins = codes "maker"
outcome_word MakerBreaker _ = codes "breaker"
outcome_word MakerMaker XWins = codes "x"
outcome_word MakerMaker YWins = codes "y"
outcome_word MakerMaker Drawn = codes "draw"
outcome_word AvoiderEnforcer XWins = codes "avoider"
outcome_word AvoiderEnforcer _ = codes "enforcer"
outcome_word Switching XWins = codes "short"
outcome_word Switching _ = codes "cut"

-- how a game ends
abbrev pub result_text : Kind → Score → List ℕ
result_text kind score = codes "result " ++ (outcome_word kind score ++ codes "\n")

-- ---- solving and making games

-- a switching game is Short's, or Cut's; a connectivity game is Maker's, or Breaker's; either is
-- that of the side that moves first
abbrev pub class_short_text : List ℕ
class_short_text = codes "class short\n"

abbrev pub class_cut_text : List ℕ
class_cut_text = codes "class cut\n"

abbrev pub class_maker_text : List ℕ
class_maker_text = codes "class maker\n"

abbrev pub class_breaker_text : List ℕ
class_breaker_text = codes "class breaker\n"

abbrev pub class_first_mover_text : List ℕ
class_first_mover_text = codes "class first-mover\n"

-- so many positions were expanded, and the question is open
abbrev pub unknown_text : ℕ → List ℕ
unknown_text positions = count_text (codes "unknown after ") positions (codes " positions\n")

-- two numbers, each between words
abbrev pub counts_text : List ℕ → ℕ → List ℕ → ℕ → List ℕ → List ℕ
counts_text first one second other last =
    first ++ (decimal one ++ (second ++ (decimal other ++ last)))

-- a game on lines was made: the numbers of its points and of its lines
abbrev pub line_game_text : ℕ → ℕ → List ℕ
line_game_text points lines =
    counts_text (codes "game ") points (codes " points ") lines (codes " lines\n")

-- a switching game was made: the numbers of its vertices and of its edges
abbrev pub switching_game_text : ℕ → ℕ → List ℕ
switching_game_text vertices edges =
    counts_text (codes "game ") vertices (codes " vertices ") edges (codes " edges\n")

-- a game was solved: how many positions were expanded for the question asked last, and how many
-- nodes the certificate has
abbrev pub expanded_text : ℕ → ℕ → List ℕ
expanded_text positions nodes =
    counts_text (codes "expanded ") positions (codes " nodes ") nodes (codes "\n")

-- ---- recorded games

-- so many moves stand, after a move or after one was taken back
abbrev pub standing_text : ℕ → List ℕ
standing_text moves = count_text (codes "standing ") moves (codes "\n")

-- the game was stored, with so many standing moves
abbrev pub recorded_text : ℕ → List ℕ
recorded_text moves = count_text (codes "recorded ") moves (codes "\n")

-- a move that lost value: its number among those that stand, its point, and the outcomes that best
-- play gives before and after it
abbrev pub lost_text : ℕ → ℕ → Kind → Score → Score → List ℕ
lost_text number point kind before after =
    codes "lost " ++ (decimal number ++ (codes " " ++ (decimal point ++ (codes " "
    ++ (outcome_word kind before ++ (codes " " ++ (outcome_word kind after ++ codes "\n")))))))

-- the game was reviewed, with so many standing moves
abbrev pub reviewed_text : ℕ → List ℕ
reviewed_text moves = count_text (codes "reviewed ") moves (codes "\n")

-- the position after so many moves stays open after so many positions
abbrev pub unknown_at_text : ℕ → ℕ → List ℕ
unknown_at_text moves positions =
    counts_text (codes "unknown at ") moves (codes " after ") positions (codes " positions\n")

-- ---- all of them

abbrev pub message_text : Message → List ℕ
message_text (Refused refusal) = refusal_text refusal
message_text (Accepted turn side goal) = accepted_text turn side goal
message_text (Claim side goal) = claim_text side goal
message_text (Move v) = move_text v
message_text (NoReply fault) = reply_text fault
message_text (Result kind score) = result_text kind score
message_text ClassShort = class_short_text
message_text ClassCut = class_cut_text
message_text ClassMaker = class_maker_text
message_text ClassBreaker = class_breaker_text
message_text ClassFirstMover = class_first_mover_text
message_text (Unknown positions) = unknown_text positions
message_text (LineGame points lines) = line_game_text points lines
message_text (SwitchingGame vertices edges) = switching_game_text vertices edges
message_text (Expanded positions nodes) = expanded_text positions nodes
message_text (Standing moves) = standing_text moves
message_text (Recorded moves) = recorded_text moves
message_text (Lost number point kind before after) = lost_text number point kind before after
message_text (Reviewed moves) = reviewed_text moves
message_text (UnknownAt moves positions) = unknown_at_text moves positions
