use Rattle.final_answers.proofs.law.answers_in_a_world_are_final.Goals as goal

pub returns : goal.returns
returns c = λ ample.
    let reached = c.config-config.ensures.reached in
    let played = reached.played ample in
    record {
      steps = played.steps;
      outputs = played.outputs;
      answered = c.answers_tell_what_became_of_commands.ensures c.args.world.now.scene.config played.steps played.outputs c.args.world.now.scene reached.cluster played.plays;
    }
