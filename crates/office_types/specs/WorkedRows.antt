-- Worked examples, with the replies and the offices that they end in. The outcomes of steps are given.
use Rattle.std.specs.Prelude.{◌≡◌, ℕ, true, false, List, [], ◌∷◌, ◌++◌, Option, None, Some, codes, map, pos}
use Rattle.node_tree.specs.declared.node.Kind.{Kind}
use Rattle.node_tree.specs.declared.node.Kind.TheVariants as kind
use Rattle.node_tree.specs.declared.node.Node.{Node}
use Rattle.xs_model.specs.declared.value.Value.{Value}
use Rattle.xs_model.specs.declared.value.Value.TheVariants as value
use Rattle.office_types.specs.declared.office.ActorRecord.{ActorRecord}
use Rattle.office_types.specs.declared.office.Caller.{Caller}
use Rattle.office_types.specs.declared.office.Item.{Item}
use Rattle.office_types.specs.declared.office.Letter.{Letter}
use Rattle.office_types.specs.declared.office.OfficeState.{OfficeState}
use Rattle.office_types.specs.declared.office.Origin.{Origin}
use Rattle.office_types.specs.declared.office.Origin.TheVariants as origin
use Rattle.office_types.specs.declared.office.Status.{Status}
use Rattle.office_types.specs.declared.office.Status.TheVariants as status
use Rattle.office_types.specs.declared.office.Timer.{Timer}
use Rattle.office_types.specs.declared.outcome.Effect.{Effect}
use Rattle.office_types.specs.declared.outcome.Effect.TheVariants as effect
use Rattle.office_types.specs.declared.outcome.End.{End}
use Rattle.office_types.specs.declared.outcome.End.TheVariants as end
use Rattle.office_types.specs.declared.outcome.Outcome.{Outcome}
use Rattle.office_types.specs.declared.outcome.Own.{Own}
use Rattle.office_types.specs.declared.outcome.To.TheVariants as to
use Rattle.office_types.specs.declared.request.Ask.{Ask}
use Rattle.office_types.specs.declared.request.Ask.TheVariants as ask
use Rattle.office_types.specs.declared.request.Reply.{Reply}
use Rattle.office_types.specs.declared.request.Request.{Request}
use Rattle.office_types.specs.declared.request.Word.TheVariants as word
use Rattle.office_types.specs.Decisions.{decided, reply_with}
use Rattle.office_types.specs.Definitions.{ActorLogic, MachineOutline, OfficeDefinitions}
use Rattle.office_types.specs.Records.{empty_office}
use Rattle.office_types.specs.Step.{took}

-- ---- rows

-- a line of a row: a request, or an actor's step with its outcome
pub data Line : Type 0 where
  request : List ℕ → ℕ → Ask → Line
  turn : ℕ → Outcome → Line

-- a request by its parts
abbrev pub request_of : List ℕ → ℕ → Ask → Request
request_of caller number asked = record { caller = caller; number = number; ask = asked }

-- the office after a line
abbrev pub after_line : OfficeDefinitions → OfficeState → Line → OfficeState
after_line definitions state (request caller number asked) = (decided definitions state (request_of caller number asked)).after
after_line definitions state (turn number outcome) = took definitions number outcome state

-- the office after lines
abbrev pub after_lines : OfficeDefinitions → OfficeState → List Line → OfficeState
after_lines definitions state [] = state
after_lines definitions state (line ∷ lines) = after_lines definitions (after_line definitions state line) lines

-- the reply to a line that is a request
abbrev pub reply_to : OfficeDefinitions → OfficeState → Line → List Reply
reply_to definitions state (request caller number asked) = (decided definitions state (request_of caller number asked)).reply ∷ []
reply_to definitions state (turn number outcome) = []

-- the replies to the requests among lines
abbrev pub replies_along : OfficeDefinitions → OfficeState → List Line → List Reply
replies_along definitions state [] = []
replies_along definitions state (line ∷ lines) = reply_to definitions state line ++ replies_along definitions (after_line definitions state line) lines

-- the lines get these replies, and lead from the empty office to this one
pub record Works (definitions : OfficeDefinitions) (lines : List Line) (replies : List Reply) (office : OfficeState) : Type 0 where
  pub replied : replies_along definitions empty_office lines ≡ replies
  pub after : after_lines definitions empty_office lines ≡ office

-- ---- the parts of offices

-- a node by its parts
abbrev pub node : Option ℕ → Kind → List ℕ → List ℕ → Node
node parent kind key id = record { parent = parent; kind = kind; key = key; id = id }

-- a machine in which no invocation is observed
abbrev pub machine : List ℕ → List Node → MachineOutline
machine id nodes = record { id = id; nodes = nodes; observed = map (λ (n : Node). []) nodes }

-- a machine that is one atomic node
abbrev pub atomic : List ℕ → MachineOutline
atomic id = machine id (node None kind.Atomic [] id ∷ [])

-- a row of the table of actors that is a machine
abbrev pub runs : List ℕ → ℕ → ActorLogic
runs name number = record { name = name; machine = Some number }

-- a map with no members
abbrev pub empty : Value
empty = value.Map []

-- an event that has a type alone
abbrev pub event : List ℕ → Value
event type = value.Map ((codes "type", value.Text type) ∷ [])

-- the event that begins an actor with this input
abbrev pub init : Value → Value
init input = value.Map ((codes "input", input) ∷ (codes "type", value.Text (codes "xstate.init")) ∷ [])

-- the error of an actor that a fault ended
abbrev pub fault : List ℕ → Value
fault name = value.Map ((codes "fault", value.Text name) ∷ [])

-- the caller of all rows
abbrev pub ann : List ℕ
ann = codes "ann"

-- a start with input null
abbrev pub start : List ℕ → Option (List ℕ) → Ask
start machine system = ask.Start machine system value.Null

-- an own part that has begun: its machine, its active nodes, its context, its children and its count of unnamed ones
abbrev pub own : ℕ → List ℕ → Value → List (List ℕ) → ℕ → Own
own def nodes context children unnamed =
    record { def = def; begun = true; nodes = nodes; history = []; context = context; children = children; unnamed = unnamed }

-- one that hasn't
abbrev pub unbegun : ℕ → Own
unbegun def = record { def = def; begun = false; nodes = []; history = []; context = value.Null; children = []; unnamed = 0 }

-- what one step gave, whose microsteps read events of these types
abbrev pub gave : Own → End → List Effect → List (List ℕ) → Outcome
gave next finish effects micros = record { own = next; end = finish; effects = effects; micros = micros }

-- a step that only begins its actor
abbrev pub begins : Own → Outcome
begins next = gave next end.Active [] (codes "xstate.init" ∷ [])

-- a machine actor that is active and has no system name
abbrev pub actor : ℕ → Option ℕ → Own → List (List ℕ × ℕ) → List Letter → ActorRecord
actor number parent part kids mailbox = record {
  number = number;
  parent = parent;
  own = Some part;
  item = None;
  system = None;
  status = status.Active;
  output = value.Null;
  error = value.Null;
  kids = kids;
  mailbox = mailbox;
}

-- one that isn't active any more
abbrev pub over : ActorRecord → Status → Value → Value → ActorRecord
over a what output error = record a { status = what; output = output; error = error }

-- a letter by its parts
abbrev pub letter : ℕ → Origin → Value → Letter
letter number from event = record { number = number; origin = from; event = event }

-- a caller by its parts
abbrev pub caller : List ℕ → List Reply → Caller
caller name replies = record { name = name; replies = replies }

-- ---- a repeat is answered by the kept reply

-- a switch that is off or on
abbrev pub toggle_office : OfficeDefinitions
toggle_office = record {
  machines = machine (codes "toggle")
      (node None (kind.Compound 1) [] (codes "toggle")
      ∷ node (Some 0) kind.Atomic (codes "off") (codes "toggle.off")
      ∷ node (Some 0) kind.Atomic (codes "on") (codes "toggle.on") ∷ []) ∷ [];
  actors = [];
}

-- a number that was decided gets its reply again, whatever is asked for under it
abbrev pub RepeatsAreKept : Type 0
RepeatsAreKept = Works toggle_office
    (request ann 1 (start (codes "toggle") None) ∷ request ann 1 (start (codes "toggle") None) ∷ request ann 1 (ask.Send 9 (event (codes "Q"))) ∷ [])
    (reply_with 201 word.Actor 1 ∷ reply_with 201 word.Actor 1 ∷ reply_with 201 word.Actor 1 ∷ [])
    (record {
      actors = actor 1 None (unbegun 0) [] (letter 1 (origin.Caller ann) (init value.Null) ∷ []) ∷ [];
      timers = [];
      names = [];
      callers = caller ann (reply_with 201 word.Actor 1 ∷ []) ∷ [];
      moment = 0;
      entries = 1;
      next_actor = 2;
      next_letter = 2;
      next_timer = 1;
    })

-- ---- a gap is refused, and takes no number

-- a third request comes before the second, and again after it, and another caller begins with its second
abbrev pub GapsAreRefused : Type 0
GapsAreRefused = Works toggle_office
    (request ann 1 (start (codes "toggle") None)
    ∷ request ann 3 (ask.Send 1 (event (codes "FLIP")))
    ∷ request ann 2 (ask.Send 1 (event (codes "xstate.x")))
    ∷ request ann 3 (ask.Send 1 (event (codes "FLIP")))
    ∷ request (codes "bob") 2 (ask.At 0) ∷ [])
    (reply_with 201 word.Actor 1 ∷ reply_with 409 word.Gap 2 ∷ reply_with 422 word.Reserved 1 ∷ reply_with 202 word.Letter 2 ∷ reply_with 409 word.Gap 1 ∷ [])
    (record {
      actors = actor 1 None (unbegun 0) []
          (letter 1 (origin.Caller ann) (init value.Null) ∷ letter 2 (origin.Caller ann) (event (codes "FLIP")) ∷ []) ∷ [];
      timers = [];
      names = [];
      callers = caller ann (reply_with 201 word.Actor 1 ∷ reply_with 422 word.Reserved 1 ∷ reply_with 202 word.Letter 2 ∷ []) ∷ [];
      moment = 0;
      entries = 3;
      next_actor = 2;
      next_letter = 3;
      next_timer = 1;
    })

-- ---- numbers that were never given, and actors that ended

-- a machine that ends at its first event
abbrev pub once_office : OfficeDefinitions
once_office = record {
  machines = machine (codes "once")
      (node None (kind.Compound 1) [] (codes "once")
      ∷ node (Some 0) kind.Atomic (codes "a") (codes "once.a")
      ∷ node (Some 0) kind.Final (codes "z") (codes "once.z") ∷ []) ∷ [];
  actors = [];
}

-- what is sent to an actor that is done, or that was never there, and a start of no machine are refused
abbrev pub EndedActorsTakeNothing : Type 0
EndedActorsTakeNothing = Works once_office
    (request ann 1 (start (codes "once") None)
    ∷ turn 1 (begins (own 0 (0 ∷ 1 ∷ []) empty [] 0))
    ∷ request ann 2 (ask.Send 1 (event (codes "END")))
    ∷ turn 1 (gave (own 0 (0 ∷ 2 ∷ []) empty [] 0) (end.Done (value.Int (pos 7))) [] (codes "END" ∷ []))
    ∷ request ann 3 (ask.Send 9 (event (codes "END")))
    ∷ request ann 4 (ask.Send 1 (event (codes "END")))
    ∷ request ann 5 (start (codes "none") None) ∷ [])
    (reply_with 201 word.Actor 1 ∷ reply_with 202 word.Letter 2 ∷ reply_with 404 word.Actor 9 ∷ reply_with 410 word.Stopped 1 ∷ reply_with 404 word.Machine 0 ∷ [])
    (record {
      actors = over (actor 1 None (own 0 (0 ∷ 2 ∷ []) empty [] 0) [] []) status.Done (value.Int (pos 7)) value.Null ∷ [];
      timers = [];
      names = [];
      callers = caller ann
          (reply_with 201 word.Actor 1 ∷ reply_with 202 word.Letter 2 ∷ reply_with 404 word.Actor 9 ∷ reply_with 410 word.Stopped 1 ∷ reply_with 404 word.Machine 0 ∷ []) ∷ [];
      moment = 0;
      entries = 7;
      next_actor = 2;
      next_letter = 3;
      next_timer = 1;
    })

-- ---- an error climbs from child to parent

-- three machines that stand below each other, and one that does nothing
abbrev pub climbing_office : OfficeDefinitions
climbing_office = record {
  machines =
      machine (codes "top") (node None (kind.Compound 1) [] (codes "top") ∷ node (Some 0) kind.Atomic (codes "a") (codes "top.a") ∷ [])
      ∷ machine (codes "mid") (node None (kind.Compound 1) [] (codes "mid") ∷ node (Some 0) kind.Atomic (codes "a") (codes "mid.a") ∷ [])
      ∷ atomic (codes "low") ∷ atomic (codes "idle") ∷ [];
  actors = runs (codes "mid") 1 ∷ runs (codes "low") 2 ∷ runs (codes "idle") 3 ∷ [];
}

-- the topmost actor with its child
abbrev pub climbing_top : Own
climbing_top = own 0 (0 ∷ 1 ∷ []) empty (codes "0.top.a" ∷ []) 0

-- the actor in the middle with its two children
abbrev pub climbing_mid : Own
climbing_mid = own 1 (0 ∷ 1 ∷ []) empty (codes "0.mid.a" ∷ codes "1.mid.a" ∷ []) 0

-- the lowest actor ends in error, and then those above it; the one beside it is stopped
abbrev pub ErrorsClimb : Type 0
ErrorsClimb = Works climbing_office
    (request ann 1 (start (codes "top") None)
    ∷ turn 1 (gave climbing_top end.Active (effect.Spawn (codes "0.top.a") 0 value.Null None ∷ []) (codes "xstate.init" ∷ []))
    ∷ turn 2 (gave climbing_mid end.Active
    (effect.Spawn (codes "0.mid.a") 1 value.Null None ∷ effect.Spawn (codes "1.mid.a") 2 value.Null None ∷ []) (codes "xstate.init" ∷ []))
    ∷ turn 3 (begins (own 2 (0 ∷ []) empty [] 0))
    ∷ turn 4 (begins (own 3 (0 ∷ []) empty [] 0))
    ∷ request ann 2 (ask.Send 3 (event (codes "BAD")))
    ∷ turn 3 (gave (own 2 (0 ∷ []) empty [] 0) (end.Error (fault (codes "Range"))) [] [])
    ∷ turn 2 (gave climbing_mid (end.Error (fault (codes "Range"))) [] [])
    ∷ turn 1 (gave climbing_top (end.Error (fault (codes "Range"))) [] []) ∷ [])
    (reply_with 201 word.Actor 1 ∷ reply_with 202 word.Letter 5 ∷ [])
    (record {
      actors =
          over (actor 1 None climbing_top ((codes "0.top.a", 2) ∷ []) []) status.Error value.Null (fault (codes "Range"))
          ∷ over (actor 2 (Some 1) climbing_mid ((codes "0.mid.a", 3) ∷ (codes "1.mid.a", 4) ∷ []) []) status.Error value.Null (fault (codes "Range"))
          ∷ over (actor 3 (Some 2) (own 2 (0 ∷ []) empty [] 0) [] []) status.Error value.Null (fault (codes "Range"))
          ∷ over (actor 4 (Some 2) (own 3 (0 ∷ []) empty [] 0) [] []) status.Stopped value.Null value.Null ∷ [];
      timers = [];
      names = [];
      callers = caller ann (reply_with 201 word.Actor 1 ∷ reply_with 202 word.Letter 5 ∷ []) ∷ [];
      moment = 0;
      entries = 9;
      next_actor = 5;
      next_letter = 8;
      next_timer = 1;
    })

-- ---- a spawn under a system name that is held ends its actor in error, which keeps its own part

-- a machine that does nothing, and one that spawns it
abbrev pub naming_office : OfficeDefinitions
naming_office = record { machines = atomic (codes "idle") ∷ atomic (codes "sp") ∷ []; actors = runs (codes "idle") 0 ∷ [] }

-- the spawn finds its name held
abbrev pub HeldNamesAreFaults : Type 0
HeldNamesAreFaults = Works naming_office
    (request ann 1 (start (codes "idle") (Some (codes "desk")))
    ∷ request ann 2 (start (codes "sp") None)
    ∷ turn 1 (begins (own 0 (0 ∷ []) empty [] 0))
    ∷ turn 2 (begins (own 1 (0 ∷ []) empty [] 0))
    ∷ request ann 3 (ask.Send 2 (event (codes "GO")))
    ∷ turn 2 (gave (own 1 (0 ∷ []) empty (codes "x:0" ∷ []) 1) end.Active
    (effect.Spawn (codes "x:0") 0 value.Null (Some (codes "desk")) ∷ []) (codes "GO" ∷ []))
    ∷ request ann 4 (start (codes "idle") (Some (codes "desk"))) ∷ [])
    (reply_with 201 word.Actor 1 ∷ reply_with 201 word.Actor 2 ∷ reply_with 202 word.Letter 3 ∷ reply_with 409 word.Name 1 ∷ [])
    (record {
      actors =
          record (actor 1 None (own 0 (0 ∷ []) empty [] 0) [] []) { system = Some (codes "desk") }
          ∷ over (actor 2 None (own 1 (0 ∷ []) empty [] 0) [] []) status.Error value.Null (fault (codes "NameHeld")) ∷ [];
      timers = [];
      names = (codes "desk", 1) ∷ [];
      callers = caller ann (reply_with 201 word.Actor 1 ∷ reply_with 201 word.Actor 2 ∷ reply_with 202 word.Letter 3 ∷ reply_with 409 word.Name 1 ∷ []) ∷ [];
      moment = 0;
      entries = 7;
      next_actor = 3;
      next_letter = 4;
      next_timer = 1;
    })

-- ---- work items are resolved once, and go with the state that invoked them

-- a machine that asks somebody outside for a signature
abbrev pub signing_office : OfficeDefinitions
signing_office = record {
  machines = machine (codes "w")
      (node None (kind.Compound 1) [] (codes "w")
      ∷ node (Some 0) kind.Atomic (codes "ask") (codes "w.ask")
      ∷ node (Some 0) kind.Atomic (codes "yes") (codes "w.yes")
      ∷ node (Some 0) kind.Atomic (codes "no") (codes "w.no") ∷ []) ∷ [];
  actors = record { name = codes "sign"; machine = None } ∷ [];
}

-- its first step makes the work item
abbrev pub asks_for_signature : Outcome
asks_for_signature = gave (own 0 (0 ∷ 1 ∷ []) empty (codes "s" ∷ []) 0) end.Active
    (effect.Spawn (codes "s") 0 (value.Map ((codes "doc", value.Int (pos 5)) ∷ [])) None ∷ []) (codes "xstate.init" ∷ [])

-- the work item
abbrev pub signature : ℕ → ℕ → Item
signature number parent = record { actor = number; src = codes "sign"; input = value.Map ((codes "doc", value.Int (pos 5)) ∷ []) }

-- the item is open after the first step, and its output waits for its parent after it was resolved
abbrev pub ItemsTellTheirParents : Type 0
ItemsTellTheirParents = Works signing_office
    (request ann 1 (start (codes "w") None)
    ∷ turn 1 asks_for_signature
    ∷ request ann 2 (ask.Resolve 2 (value.Map ((codes "ok", value.Bool true) ∷ [])))
    ∷ request ann 3 (ask.Resolve 2 value.Null) ∷ [])
    (reply_with 201 word.Actor 1 ∷ reply_with 200 word.Item 2 ∷ reply_with 410 word.Closed 2 ∷ [])
    (record {
      actors =
          actor 1 None (own 0 (0 ∷ 1 ∷ []) empty (codes "s" ∷ []) 0) ((codes "s", 2) ∷ [])
          (letter 2 (origin.Actor 2)
          (value.Map ((codes "actorId", value.Text (codes "s")) ∷ (codes "output", value.Map ((codes "ok", value.Bool true) ∷ []))
          ∷ (codes "type", value.Text (codes "xstate.done.actor.s")) ∷ [])) ∷ [])
          ∷ record {
            number = 2;
            parent = Some 1;
            own = None;
            item = Some (signature 2 1);
            system = None;
            status = status.Done;
            output = value.Map ((codes "ok", value.Bool true) ∷ []);
            error = value.Null;
            kids = [];
            mailbox = [];
          } ∷ [];
      timers = [];
      names = [];
      callers = caller ann (reply_with 201 word.Actor 1 ∷ reply_with 200 word.Item 2 ∷ reply_with 410 word.Closed 2 ∷ []) ∷ [];
      moment = 0;
      entries = 4;
      next_actor = 3;
      next_letter = 3;
      next_timer = 1;
    })

-- two actors leave the state that invoked the item, the one after it was resolved and the other before
abbrev pub ItemsGoWithTheirState : Type 0
ItemsGoWithTheirState = Works signing_office
    (request ann 1 (start (codes "w") None)
    ∷ turn 1 asks_for_signature
    ∷ request ann 2 (ask.Resolve 2 (value.Map ((codes "ok", value.Bool true) ∷ [])))
    ∷ request ann 3 (ask.Resolve 2 value.Null)
    ∷ turn 1 (gave (own 0 (0 ∷ 2 ∷ []) empty [] 0) end.Active (effect.Stop (codes "s") ∷ []) (codes "xstate.done.actor.s" ∷ []))
    ∷ request ann 4 (start (codes "w") None)
    ∷ turn 3 asks_for_signature
    ∷ request ann 5 (ask.Send 3 (event (codes "SKIP")))
    ∷ turn 3 (gave (own 0 (0 ∷ 3 ∷ []) empty [] 0) end.Active (effect.Stop (codes "s") ∷ []) (codes "SKIP" ∷ []))
    ∷ request ann 6 (ask.Reject 4 value.Null)
    ∷ request ann 7 (ask.Resolve 9 value.Null) ∷ [])
    (reply_with 201 word.Actor 1 ∷ reply_with 200 word.Item 2 ∷ reply_with 410 word.Closed 2 ∷ reply_with 201 word.Actor 3
    ∷ reply_with 202 word.Letter 4 ∷ reply_with 410 word.Closed 4 ∷ reply_with 404 word.Item 9 ∷ [])
    (record {
      actors =
          actor 1 None (own 0 (0 ∷ 2 ∷ []) empty [] 0) [] []
          ∷ actor 3 None (own 0 (0 ∷ 3 ∷ []) empty [] 0) [] [] ∷ [];
      timers = [];
      names = [];
      callers = caller ann
          (reply_with 201 word.Actor 1 ∷ reply_with 200 word.Item 2 ∷ reply_with 410 word.Closed 2 ∷ reply_with 201 word.Actor 3
          ∷ reply_with 202 word.Letter 4 ∷ reply_with 410 word.Closed 4 ∷ reply_with 404 word.Item 9 ∷ []) ∷ [];
      moment = 0;
      entries = 11;
      next_actor = 5;
      next_letter = 5;
      next_timer = 1;
    })

-- ---- timers: one is cancelled, those of an actor that is done are dropped, and those that are due come in order

-- a machine that logs what it is sent, and one that ends
abbrev pub timing_office : OfficeDefinitions
timing_office = record {
  machines =
      atomic (codes "t")
      ∷ machine (codes "u")
      (node None (kind.Compound 1) [] (codes "u")
      ∷ node (Some 0) kind.Atomic (codes "a") (codes "u.a")
      ∷ node (Some 0) kind.Atomic (codes "b") (codes "u.b")
      ∷ node (Some 0) kind.Final (codes "z") (codes "u.z") ∷ []) ∷ [];
  actors = [];
}

-- a timer of 100 milliseconds to the actor itself
abbrev pub in_100 : List ℕ → List ℕ → Effect
in_100 id type = effect.Schedule (Some id) 100 to.Own (event type)

-- a context with a log
abbrev pub logged : List Value → Value
logged types = value.Map ((codes "log", value.List types) ∷ [])

-- both actors start and schedule five timers, of which one is cancelled
abbrev pub timing_start : List Line
timing_start =
    request ann 1 (start (codes "t") None)
    ∷ request ann 2 (start (codes "u") None)
    ∷ turn 1 (gave (own 0 (0 ∷ []) (logged []) [] 0) end.Active
    (in_100 (codes "p") (codes "P") ∷ in_100 (codes "q") (codes "Q") ∷ in_100 (codes "r") (codes "R") ∷ effect.Cancel (codes "r") ∷ [])
    (codes "xstate.init" ∷ []))
    ∷ turn 2 (gave (own 1 (0 ∷ 1 ∷ []) empty [] 0) end.Active
    (in_100 (codes "p") (codes "P") ∷ in_100 (codes "xstate.after.100.u.a") (codes "xstate.after.100.u.a") ∷ [])
    (codes "xstate.init" ∷ [])) ∷ []

-- a timer of an actor to itself, due at 100
abbrev pub timer : ℕ → ℕ → List ℕ → List ℕ → Timer
timer order number id type = record { order = order; owner = number; target = number; due = 100; id = Some id; event = event type }

-- after two steps four of the five timers stand
abbrev pub TimersStand : Type 0
TimersStand = Works timing_office timing_start
    (reply_with 201 word.Actor 1 ∷ reply_with 201 word.Actor 2 ∷ [])
    (record {
      actors =
          actor 1 None (own 0 (0 ∷ []) (logged []) [] 0) [] []
          ∷ actor 2 None (own 1 (0 ∷ 1 ∷ []) empty [] 0) [] [] ∷ [];
      timers =
          timer 1 1 (codes "p") (codes "P") ∷ timer 2 1 (codes "q") (codes "Q")
          ∷ timer 4 2 (codes "p") (codes "P") ∷ timer 5 2 (codes "xstate.after.100.u.a") (codes "xstate.after.100.u.a") ∷ [];
      names = [];
      callers = caller ann (reply_with 201 word.Actor 1 ∷ reply_with 201 word.Actor 2 ∷ []) ∷ [];
      moment = 0;
      entries = 4;
      next_actor = 3;
      next_letter = 3;
      next_timer = 6;
    })

-- those of the actor that isn't done become letters when the moment reaches them
abbrev pub TimersBecomeLetters : Type 0
TimersBecomeLetters = Works timing_office
    (timing_start
    ++ request ann 3 (ask.Send 2 (event (codes "END")))
    ∷ turn 2 (gave (own 1 (0 ∷ 3 ∷ []) empty [] 0) (end.Done value.Null) (effect.Cancel (codes "xstate.after.100.u.a") ∷ []) (codes "END" ∷ []))
    ∷ request ann 4 (ask.At 99)
    ∷ request ann 5 (ask.At 100)
    ∷ turn 1 (gave (own 0 (0 ∷ []) (logged (value.Text (codes "P") ∷ [])) [] 0) end.Active [] (codes "P" ∷ []))
    ∷ request ann 6 (ask.At 50) ∷ [])
    (reply_with 201 word.Actor 1 ∷ reply_with 201 word.Actor 2 ∷ reply_with 202 word.Letter 3 ∷ reply_with 200 word.Due 0 ∷ reply_with 200 word.Due 2
    ∷ reply_with 409 word.Moment 100 ∷ [])
    (record {
      actors =
          actor 1 None (own 0 (0 ∷ []) (logged (value.Text (codes "P") ∷ [])) [] 0) [] (letter 5 (origin.Actor 1) (event (codes "Q")) ∷ [])
          ∷ over (actor 2 None (own 1 (0 ∷ 3 ∷ []) empty [] 0) [] []) status.Done value.Null value.Null ∷ [];
      timers = [];
      names = [];
      callers = caller ann
          (reply_with 201 word.Actor 1 ∷ reply_with 201 word.Actor 2 ∷ reply_with 202 word.Letter 3 ∷ reply_with 200 word.Due 0 ∷ reply_with 200 word.Due 2
          ∷ reply_with 409 word.Moment 100 ∷ []) ∷ [];
      moment = 100;
      entries = 10;
      next_actor = 3;
      next_letter = 6;
      next_timer = 6;
    })

-- ---- an observed child tells its parent what it is after each step that leaves it active

-- a machine that observes its child, and the child
abbrev pub observing_office : OfficeDefinitions
observing_office = record {
  machines =
      record {
        id = codes "obs";
        nodes = node None (kind.Compound 1) [] (codes "obs") ∷ node (Some 0) kind.Atomic (codes "a") (codes "obs.a") ∷ [];
        observed = [] ∷ (codes "c" ∷ []) ∷ [];
      }
      ∷ machine (codes "cell")
      (node None (kind.Compound 1) [] (codes "cell")
      ∷ node (Some 0) kind.Atomic (codes "x") (codes "cell.x")
      ∷ node (Some 0) kind.Final (codes "y") (codes "cell.y") ∷ []) ∷ [];
  actors = runs (codes "cell") 1 ∷ [];
}

-- the own part of a parent that saw this
abbrev pub seen : Value → Own
seen what = own 0 (0 ∷ 1 ∷ []) (value.Map ((codes "seen", what) ∷ [])) (codes "c" ∷ []) 0

-- the parent starts and makes its child, which begins
abbrev pub observing_start : List Line
observing_start =
    request ann 1 (start (codes "obs") None)
    ∷ turn 1 (gave (seen value.Null) end.Active (effect.Spawn (codes "c") 0 value.Null None ∷ []) (codes "xstate.init" ∷ []))
    ∷ turn 2 (begins (own 1 (0 ∷ 1 ∷ []) empty [] 0)) ∷ []

-- what the parent is told of a child that it observes, in `x` with an empty context
abbrev pub told : Value
told = value.Map
    ((codes "actorId", value.Text (codes "c"))
    ∷ (codes "snapshot", value.Map ((codes "context", empty) ∷ (codes "value", value.Text (codes "x")) ∷ []))
    ∷ (codes "type", value.Text (codes "xstate.snapshot.c")) ∷ [])

-- the parent is told after the first step of its child
abbrev pub ObservedChildrenTell : Type 0
ObservedChildrenTell = Works observing_office observing_start
    (reply_with 201 word.Actor 1 ∷ [])
    (record {
      actors =
          actor 1 None (seen value.Null) ((codes "c", 2) ∷ []) (letter 3 (origin.Actor 2) told ∷ [])
          ∷ actor 2 (Some 1) (own 1 (0 ∷ 1 ∷ []) empty [] 0) [] [] ∷ [];
      timers = [];
      names = [];
      callers = caller ann (reply_with 201 word.Actor 1 ∷ []) ∷ [];
      moment = 0;
      entries = 3;
      next_actor = 3;
      next_letter = 4;
      next_timer = 1;
    })

-- one that is done tells only that
abbrev pub DoneChildrenTellTheirEnd : Type 0
DoneChildrenTellTheirEnd = Works observing_office
    (observing_start
    ++ turn 1 (gave (seen (value.Text (codes "x"))) end.Active [] (codes "xstate.snapshot.c" ∷ []))
    ∷ request ann 2 (ask.Send 2 (event (codes "GO")))
    ∷ turn 2 (gave (own 1 (0 ∷ 2 ∷ []) empty [] 0) (end.Done value.Null) [] (codes "GO" ∷ [])) ∷ [])
    (reply_with 201 word.Actor 1 ∷ reply_with 202 word.Letter 4 ∷ [])
    (record {
      actors =
          actor 1 None (seen (value.Text (codes "x"))) ((codes "c", 2) ∷ [])
          (letter 5 (origin.Actor 2)
          (value.Map ((codes "actorId", value.Text (codes "c")) ∷ (codes "output", value.Null)
          ∷ (codes "type", value.Text (codes "xstate.done.actor.c")) ∷ [])) ∷ [])
          ∷ over (actor 2 (Some 1) (own 1 (0 ∷ 2 ∷ []) empty [] 0) [] []) status.Done value.Null value.Null ∷ [];
      timers = [];
      names = [];
      callers = caller ann (reply_with 201 word.Actor 1 ∷ reply_with 202 word.Letter 4 ∷ []) ∷ [];
      moment = 0;
      entries = 6;
      next_actor = 3;
      next_letter = 6;
      next_timer = 1;
    })

-- ---- all of them

-- each of the rows comes out as it is written
pub record WorkedExamples : Type 0 where
  pub repeats : RepeatsAreKept
  pub gaps : GapsAreRefused
  pub ends : EndedActorsTakeNothing
  pub errors : ErrorsClimb
  pub names : HeldNamesAreFaults
  pub resolved_items : ItemsTellTheirParents
  pub removed_items : ItemsGoWithTheirState
  pub timers : TimersStand
  pub moments : TimersBecomeLetters
  pub observed : ObservedChildrenTell
  pub observed_ends : DoneChildrenTellTheirEnd
