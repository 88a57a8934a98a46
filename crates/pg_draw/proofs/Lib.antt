mod Apart
mod Common
mod Inside
mod Order
