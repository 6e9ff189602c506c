-- What the fields of `Steps` are seen as.
use Rattle.gtp_session.specs.declared.steps.Steps.TheInside.{Inside}
use Rattle.gtp_session.specs.Steps.{StepsState, IsStepsState}

abbrev pub state_in : Inside → StepsState
state_in f =
    record {
      rest = f.reader;
      line = f.line;
      wait = f.wait;
      game = f.game;
      ended = f.ended;
      reply = f.reply.items;
      name = f.name.items;
      version = f.version.items;
      commands = f.commands;
    }

abbrev pub IsKept : Inside → Type 0
IsKept f = IsStepsState (state_in f)
