-- What the code's types stand for, by computation.
use mathlib.Core.Path.{refl}
use Rattle.press.specs.Types.{PressFields}

pub press_fields : PressFields
press_fields =
    record {
      session = λ n l r v. refl;
      call = λ scratch l r b. refl;
      refused_press = λ why session left right scratch. refl;
      shown_press = λ v s l r p session left right scratch. refl;
    }
