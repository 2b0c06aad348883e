-- What is known of an input so far, which part is wanted next and what becomes of it.
-- Assumes nothing.
use Rattle.std.specs.Prelude.{Bool, cond, List, ℕ, ◌+◌, ◌*◌, eqb, leb, ltb, length, get_or, set, replicate}
use Rattle.std.specs.Float.{binary32}
use Rattle.std.specs.Float.Ieee.{of_bits}
use Rattle.std.specs.Float.Ieee.Scale.{finite}
use Rattle.floats.specs.Numbers.{zero_f}
use Rattle.search.specs.declared.Settings.{Settings}
use Rattle.search.specs.Answers.{index_number}
use Rattle.words.specs.Words.{little_endian}
use Rattle.refusals.specs.declared.Refusal.{Refusal}
use Rattle.refusals.specs.declared.Refusal.TheVariants as refused
use Rattle.feed.specs.declared.Field.{Field}
use Rattle.feed.specs.declared.Field.TheVariants.{
  SettingsCount,
  Level,
  Threshold,
  Second,
  Distance,
  WindowCount,
  SampleCount,
}
use Rattle.feed.specs.declared.Stage.{Stage}
use Rattle.feed.specs.declared.Stage.TheVariants.{Number, Index, Samples, End, Over}
use Rattle.feed.specs.declared.State.{State}
use Rattle.feed.specs.declared.Shot.{Shot}
use Rattle.feed.specs.declared.Said.{Said}
use Rattle.feed.specs.declared.Said.TheVariants.{Nothing, Head, Window, Refused}
use Rattle.feed.specs.declared.Fed.{Fed}

-- how many bytes are wanted next; at the end one, to see that it does not come
abbrev pub wanted_at : Stage → ℕ
wanted_at (Number f) = 4
wanted_at Index = 8
wanted_at Samples = 9240
wanted_at End = 1
wanted_at Over = 0

unfoldable pub wanted_of : State → ℕ
wanted_of s = wanted_at s.stage

-- nothing is known yet: zeros
abbrev pub blank_of : Stage → State
blank_of stage =
    record {
      stage = stage;
      settings = record { level = 0; threshold = zero_f; second = zero_f; distance = 0 };
      windows = 0;
      done = 0;
      indices = replicate 64 0;
    }

unfoldable pub start_of : State
start_of = blank_of (Number SettingsCount)

-- ---- what becomes of a state, and what is said

abbrev pub says : Said → State → Fed
says said s = record { state = s; said = said }

-- a refusal, and all is over
abbrev pub refuses_with : Refusal → Fed
refuses_with refusal = says (Refused refusal) (blank_of Over)

unfoldable pub provided : Bool → Refusal → Fed → Fed
provided test refusal fed = cond test fed (refuses_with refusal)

-- the same at another stage, with other settings
abbrev pub told_of : Stage → Settings → State → State
told_of stage settings s =
    record { stage = stage; settings = settings; windows = s.windows; done = s.done; indices = s.indices }

-- the same at another stage, with other counts
abbrev pub counted_of : Stage → ℕ → ℕ → State → State
counted_of stage windows done s =
    record { stage = stage; settings = s.settings; windows = windows; done = done; indices = s.indices }

-- where k of the indices came, and where k of the windows came
unfoldable pub index_stage : ℕ → ℕ → Stage
index_stage k windows = cond (ltb k windows) Index (Number SampleCount)

unfoldable pub samples_stage : ℕ → ℕ → Stage
samples_stage k windows = cond (ltb k windows) Samples End

-- ---- what is done with a number of 32 bits; t: the settings so far

abbrev pub number_fed : Field → State → Settings → ℕ → Fed
number_fed SettingsCount s t n = provided (eqb n 4) refused.Malformed (says Nothing (told_of (Number Level) t s))
number_fed Level s t n =
    provided (leb n 2) refused.Level
    (says Nothing
    (told_of (Number Threshold) (record { level = n; threshold = t.threshold; second = t.second; distance = t.distance }) s))
number_fed Threshold s t n =
    let x = of_bits binary32 n in
    provided (finite x) refused.Threshold
    (says Nothing
    (told_of (Number Second) (record { level = t.level; threshold = x; second = t.second; distance = t.distance }) s))
number_fed Second s t n =
    let x = of_bits binary32 n in
    provided (finite x) refused.Threshold
    (says Nothing
    (told_of (Number Distance) (record { level = t.level; threshold = t.threshold; second = x; distance = t.distance }) s))
number_fed Distance s t n =
    says Nothing
    (told_of (Number WindowCount) (record { level = t.level; threshold = t.threshold; second = t.second; distance = n }) s)
number_fed WindowCount s t n =
    provided (leb n 64) refused.Malformed (says Nothing (counted_of (index_stage 0 n) n 0 s))
number_fed SampleCount s t n =
    provided (eqb n (2310 * s.windows)) refused.Malformed
    (says (Head s.windows) (counted_of (samples_stage 0 s.windows) s.windows 0 s))

-- ---- an index, a window

-- an index is kept where there is room for it
abbrev pub kept_of : Stage → ℕ → State → State
kept_of stage index s =
    record {
      stage = stage;
      settings = s.settings;
      windows = s.windows;
      done = s.done + 1;
      indices = set s.indices s.done index;
    }

unfoldable pub index_fed : State → ℕ → Fed
index_fed s index =
    provided (ltb s.done 64) refused.Malformed
    (provided (eqb (index_number index) 0) refused.Index
    (says Nothing (kept_of (index_stage (s.done + 1) s.windows) index s)))

-- the window whose samples came
abbrev pub shot_of : State → Shot
shot_of s = record { window = s.done; settings = s.settings; index = get_or s.indices s.done 0 }

unfoldable pub samples_fed : State → Fed
samples_fed s =
    provided (ltb s.done 64) refused.Malformed
    (says (Window (shot_of s)) (counted_of (samples_stage (s.done + 1) s.windows) s.windows (s.done + 1) s))

-- ---- the whole

-- a part that has another length than is wanted is malformed
unfoldable pub sized : ℕ → List ℕ → Fed → Fed
sized n part fed = provided (eqb (length part) n) refused.Malformed fed

abbrev pub fed_at : Stage → State → List ℕ → Fed
fed_at (Number f) s part = sized 4 part (number_fed f s s.settings (little_endian part))
fed_at Index s part = sized 8 part (index_fed s (little_endian part))
fed_at Samples s part = sized 9240 part (samples_fed s)
fed_at End s part = sized 0 part (says Nothing (blank_of Over))
fed_at Over s part = says Nothing s

-- the part that was wanted; a shorter one says that the input ended there
unfoldable pub fed_of : State → List ℕ → Fed
fed_of s part = fed_at s.stage s part

-- a part that could not be read
unfoldable pub failed_of : State → Fed
failed_of s = cond (eqb (wanted_of s) 0) (says Nothing s) (refuses_with refused.Malformed)
