-- What the contracts of the contraction cite beside the plan.
pub mod Contract
